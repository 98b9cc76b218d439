-- The name in a declarator is that of a declarator inside, down to which each is the declarator inside the one round it.
use Rattle.std.proofs.Common.{◌≡◌, ◌∙◌, inl, ℕ, Option, Some, None, refl, sym, ap, subst}
use Rattle.std.proofs.lemmas.Option.{none-some, same_Some}
use Rattle.std.specs.Prelude.{⊤}
use Rattle.lk_base.specs.declared.spot.Spot.{Spot}
use Rattle.lk_tree.specs.declared.expression.DeclaratorForm.TheOpen.{DeclaratorForm-F}
use Rattle.lk_tree.specs.declared.expression.DeclaratorForm.TheFolds.{ind-Declarator, map-DeclaratorForm}
use Rattle.lk_tree.specs.declared.expression.DeclaratorForm.{DeclaratorForm, out-DeclaratorForm, out-roll-DeclaratorForm}
use Rattle.lk_tree.specs.declared.expression.Declarator.{Declarator, roll-Declarator}
use Rattle.lk_tree.specs.declared.expression.Expr.{Expr}
use Rattle.lk_tree.specs.declared.expression.ExprForm.{ExprForm}
use Rattle.lk_tree.specs.declared.expression.Item.{Item}
use Rattle.lk_tree.specs.declared.expression.Member.{Member}
use Rattle.lk_tree.specs.declared.expression.MemberDeclarator.{MemberDeclarator}
use Rattle.lk_tree.specs.declared.expression.Parameter.{Parameter}
use Rattle.lk_tree.specs.declared.expression.Specifier.{Specifier}
use Rattle.lk_tree.specs.declared.expression.TypeName.{TypeName}
use Rattle.lk_typed.specs.Env.{Env}
use Rattle.lk_typed.specs.Expressions.{declarator_found}
use Rattle.lk_typed.specs.Layers.{DeclaratorLayer}
use Rattle.lk_typed.specs.NodeParts.{parts}
use Rattle.lk_typed.specs.Nodes.{Node, ADeclarator, Left, at}
use Rattle.lk_typed.specs.Parts.{declarator_parts}
use Rattle.lk_typed.specs.Stands.{IsIn}
use Rattle.lk_typed.specs.Telling.{in_declarator}
use Rattle.lk_typed.specs.Told.{Named}
use Rattle.lk_rules.specs.LayerLaws.{DeclaratorTree, declarator_parts_told}
use Rattle.lk_rules.proofs.Layered.{declarators_follow_their_forms}
use Rattle.lk_nodes.proofs.Laid.{StandsIn, lower}
use Rattle.lk_nodes.proofs.Lists.{With}

module _ (at_end : Env) where
  -- a declarator that stands in another by declarators alone, each a part of the one round it
  pub data Chain (env : Env) (left : Left) (d : Declarator) : Env → Left → Declarator → Type 0 where
    itself : Chain env left d env left d
    deeper : {e e' : Env} {l l' : Left} {i i' : Declarator} → Chain env left d e l i → IsIn (at e' (ADeclarator l' i')) (parts at_end e (ADeclarator l i)) → Chain env left d e' l' i'

  -- the end of a chain stands where its beginning does
  pub chain_stands : {env env' : Env} {node : Node} {left : Left} {d : Declarator} {e : Env} {l : Left} {i : Declarator} → StandsIn at_end env' node env (ADeclarator left d) → Chain env left d e l i →
      StandsIn at_end env' node e (ADeclarator l i)
  chain_stands outside itself = outside
  chain_stands outside (deeper {e' = e'} {l' = l'} {i' = i'} chain is) = lower at_end (chain_stands outside chain) (at e' (ADeclarator l' i')) is

  -- a declarator of a chain has this name
  pub record IsNamedBy (env : Env) (left : Left) (d : Declarator) (named : Named) : Type 0 where
    pub at_env : Env
    pub left_there : Left
    pub inner : Declarator
    pub chain : Chain env left d at_env left_there inner
    pub number : inner.ordinal ≡ named.ordinal
    pub spot : inner.spot ≡ named.spot

  -- the declarator that an optional declarator inside is
  abbrev IfThere : (Declarator → Type 0) → Option Declarator → Type 0
  IfThere P None = ⊤
  IfThere P (Some d) = P d

  -- this holds of the declarator inside
  abbrev Inside : (Declarator → Type 0) → DeclaratorTree → Type 0
  Inside P (DeclaratorForm-F.Star qualifiers inner) = IfThere P inner
  Inside P (DeclaratorForm-F.Named name) = ⊤
  Inside P (DeclaratorForm-F.Group inner) = P inner
  Inside P (DeclaratorForm-F.ArrayOf inner size) = IfThere P inner
  Inside P (DeclaratorForm-F.FunctionOf inner ps dots) = IfThere P inner

  -- the name of a declarator is that of one inside
  abbrev HasItsName : Declarator → Type 0
  HasItsName d = (named : Named) → (declarator_found d).name ≡ Some named → (env e : Env) (left l : Left) (whole : Declarator) → Chain env left whole e l d → IsNamedBy env left whole named

  -- the name that a layer tells
  abbrev name_told : DeclaratorLayer → Option Named
  name_told told = told.told.name

  -- the name that a form tells
  abbrev name_of_form : DeclaratorTree → Spot → ℕ → Option Named
  name_of_form x spot n = name_told (in_declarator (declarator_parts_told x) spot n)

  -- a declarator whose first part is one that has its name
  by_inner : (d inner : Declarator) (x : DeclaratorTree) → out-DeclaratorForm d.form ≡ x → ((env : Env) (left : Left) → (l : Left) × IsIn (at env (ADeclarator l inner)) (declarator_parts env left x)) →
      HasItsName inner → (named : Named) → (declarator_found inner).name ≡ Some named → (env e : Env) (left l : Left) (whole : Declarator) → Chain env left whole e l d → IsNamedBy env left whole named
  by_inner d inner x form first holds named is env e left l whole chain =
      let part = first e l in
      holds named is env e left part.0 whole (deeper chain (subst (λ x. IsIn (at e (ADeclarator part.0 inner)) (declarator_parts e l x)) (sym form) part.1))

  -- a form has the name of the declarator inside, or is the name
  by_form : (d : Declarator) (x : DeclaratorTree) → out-DeclaratorForm d.form ≡ x → Inside HasItsName x → (named : Named) → name_of_form x d.spot d.ordinal ≡ Some named →
      (env e : Env) (left l : Left) (whole : Declarator) → Chain env left whole e l d → IsNamedBy env left whole named
  by_form d (DeclaratorForm-F.Star qualifiers None) form holds named is env e left l whole chain = absurd (none-some named is)
  by_form d (DeclaratorForm-F.Star qualifiers (Some inner)) form holds named is env e left l whole chain = by_inner d inner _ form (λ env left. (_, inl refl)) holds named is env e left l whole chain
  by_form d (DeclaratorForm-F.Named name) form holds named is env e left l whole chain =
      let same = same_Some _ named is in
      record { at_env = e; left_there = l; inner = d; chain = chain; number = ap (λ (n : Named). n.ordinal) same; spot = ap (λ (n : Named). n.spot) same }
  by_form d (DeclaratorForm-F.Group inner) form holds named is env e left l whole chain = by_inner d inner _ form (λ env left. (_, inl refl)) holds named is env e left l whole chain
  by_form d (DeclaratorForm-F.ArrayOf None size) form holds named is env e left l whole chain = absurd (none-some named is)
  by_form d (DeclaratorForm-F.ArrayOf (Some inner) size) form holds named is env e left l whole chain = by_inner d inner _ form (λ env left. (_, inl refl)) holds named is env e left l whole chain
  by_form d (DeclaratorForm-F.FunctionOf None ps dots) form holds named is env e left l whole chain = absurd (none-some named is)
  by_form d (DeclaratorForm-F.FunctionOf (Some inner) ps dots) form holds named is env e left l whole chain = by_inner d inner _ form (λ env left. (_, inl refl)) holds named is env e left l whole chain

  -- the name of a declarator is that of one inside, where this holds of the declarator inside
  by_its_form : (d : Declarator) → Inside HasItsName (out-DeclaratorForm d.form) → HasItsName d
  by_its_form d holds named is env e left l whole chain =
      by_form d (out-DeclaratorForm d.form) refl holds named (sym (ap name_told (declarators_follow_their_forms d)) ∙ is) env e left l whole chain

  -- ---- all declarators

  -- what holds of all
  abbrev Always : (A : Type 0) → A → Type 0
  Always A a = ⊤

  -- this holds of the declarator inside a form
  abbrev InsideForm : DeclaratorForm → Type 0
  InsideForm form = Inside HasItsName (out-DeclaratorForm form)

  -- this holds of the declarator inside a layer of such declarators
  inside_layer : (y : DeclaratorForm-F (With InsideForm) (With (Always ExprForm)) (With (Always MemberDeclarator)) (With (Always Specifier)) (With HasItsName) (With (Always Expr)) (With (Always Item)) (With (Always Member)) (With (Always Parameter)) (With (Always TypeName))) → Inside HasItsName (map-DeclaratorForm (With InsideForm) (With (Always ExprForm)) (With (Always MemberDeclarator)) (With (Always Specifier)) (With HasItsName) (With (Always Expr)) (With (Always Item)) (With (Always Member)) (With (Always Parameter)) (With (Always TypeName)) DeclaratorForm ExprForm MemberDeclarator Specifier Declarator Expr Item Member Parameter TypeName (λ a. a.0) (λ a. a.0) (λ a. a.0) (λ a. a.0) (λ a. a.0) (λ a. a.0) (λ a. a.0) (λ a. a.0) (λ a. a.0) (λ a. a.0) y)
  inside_layer (DeclaratorForm-F.Star qualifiers None) = tt
  inside_layer (DeclaratorForm-F.Star qualifiers (Some inner)) = inner.1
  inside_layer (DeclaratorForm-F.Named name) = tt
  inside_layer (DeclaratorForm-F.Group inner) = inner.1
  inside_layer (DeclaratorForm-F.ArrayOf None None) = tt
  inside_layer (DeclaratorForm-F.ArrayOf None (Some size)) = tt
  inside_layer (DeclaratorForm-F.ArrayOf (Some inner) None) = inner.1
  inside_layer (DeclaratorForm-F.ArrayOf (Some inner) (Some size)) = inner.1
  inside_layer (DeclaratorForm-F.FunctionOf None ps dots) = tt
  inside_layer (DeclaratorForm-F.FunctionOf (Some inner) ps dots) = inner.1

  -- the name in a declarator is that of one in its chain
  pub has_its_name : (d : Declarator) → HasItsName d
  has_its_name =
      ind-Declarator InsideForm (Always ExprForm) (Always MemberDeclarator) (Always Specifier) HasItsName (Always Expr) (Always Item) (Always Member) (Always Parameter) (Always TypeName)
      (λ x y is. subst (Inside HasItsName) (is ∙ sym (out-roll-DeclaratorForm x)) (inside_layer y)) (λ x y is. tt) (λ x y is. tt) (λ x y is. tt)
      (λ x y is. by_its_form (roll-Declarator x) (subst InsideForm (ap (λ x. x.form) is) y.form.1)) (λ x y is. tt) (λ x y is. tt) (λ x y is. tt) (λ x y is. tt) (λ x y is. tt)
