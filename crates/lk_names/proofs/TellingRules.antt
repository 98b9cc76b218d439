-- What is told of a rule, where what it asks of is known.
use Rattle.std.proofs.Common.{◌≡◌, ◌∙◌, ◌&&◌, Bool, true, false, not, Option, None, List, [], ◌∷◌, drop, if◌then◌else◌, refl, sym, ap}
use Rattle.lk_base.specs.declared.code.Code.TheVariants.{Redeclared}
use Rattle.lk_typed.specs.Env.{Env, Name, Declared, Tag, look_up_here}
use Rattle.lk_typed.specs.Faults.{Breach, breach_of}
use Rattle.lk_typed.specs.Redeclared.{TagUse, is_given, is_second, may_stand, may_use, tag_meant, name_rules, tag_rules}
use Rattle.lk_names.proofs.Givens.{none_named}

-- what is told of a name by its latest declaration, and by whether it gets a second body or initialiser
module _ (env : Env) (new : Declared) (found : Option Declared) (is : found ≡ look_up_here env new.name) (second : Bool) (second_is : second ≡ is_second env new) where
  told_of_name : Option Declared → Bool → List Breach
  told_of_name o s = if may_stand o new && not s then [] else breach_of Redeclared new.name ∷ []

  pub name_told : (if may_stand found new && not second then [] else breach_of Redeclared new.name ∷ []) ≡ name_rules env new
  unfolding told_of_name
  name_told = ap (λ o. told_of_name o second) is ∙ ap (told_of_name (look_up_here env new.name)) second_is

-- a name that isn't declared gets no second one
pub none_second : (env : Env) (new : Declared) → None ≡ look_up_here env new.name → false ≡ is_second env new
none_second env new none =
    sym (ap (λ b. is_given new && b) (none_named new.name (drop env.base env.declared) none) ∙ none_of (is_given new))
  where
    none_of : (a : Bool) → a && false ≡ false
    none_of true = refl
    none_of false = refl

module _ (env : Env) (wanted : TagUse) (name : Name) (found : Option Tag) (is : found ≡ tag_meant env wanted name) where
  told_of_tag : Option Tag → List Breach
  told_of_tag o = if may_use env o wanted then [] else breach_of Redeclared name ∷ []

  pub tag_admitted : may_use env found wanted ≡ true → [] ≡ tag_rules env wanted name
  unfolding told_of_tag
  tag_admitted may = sym (ap (λ b. if b then [] else breach_of Redeclared name ∷ []) may) ∙ ap told_of_tag is

  pub tag_refused : may_use env found wanted ≡ false → breach_of Redeclared name ∷ [] ≡ tag_rules env wanted name
  unfolding told_of_tag
  tag_refused may = sym (ap (λ b. if b then [] else breach_of Redeclared name ∷ []) may) ∙ ap told_of_tag is
