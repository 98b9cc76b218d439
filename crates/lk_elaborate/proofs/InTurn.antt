-- External declarations in the order of the text, while they are gone through.
use Rattle.std.proofs.Common.{◌≡◌, ◌∙◌, ◌++◌, inl, inr, List, [], ◌∷◌, refl, sym, subst, append_assoc}
use Rattle.std.proofs.lemmas.List.{append-nil}
use Rattle.lk_tree.specs.declared.statement.Decl.{Decl}
use Rattle.lk_tree.specs.declared.statement.Unit.{Unit}
use Rattle.lk_typed.specs.Env.{AsOperand, Env, Name, extend}
use Rattle.lk_typed.specs.NodeParts.{external_adds, externals_in_turn}
use Rattle.lk_typed.specs.Nodes.{AnExternal, Placed, at}
use Rattle.lk_typed.specs.Stands.{IsIn}
use Rattle.lk_elaborator.specs.declared.elaborator.Elaborator.{Elaborator}
use Rattle.lk_elaborate.proofs.Externals.{both_put, in_second, none_put}
use Rattle.lk_elaborate.proofs.Outside.{source_outside}
use Rattle.lk_elaborate.specs.Externals.{MakesExternal, MakesExternals, PutsExternals}
use Rattle.lk_elaborate.specs.Making.{StandIn}
use Rattle.lk_elaborate.specs.Outside.{GoesOutside}

-- those before these were put
pub record IsPutUpTo (externs : List Name) (unit : Unit) (env : Env) (all rest : List Decl) (old now : Elaborator) : Type 0 where
  pub before : List Placed
  pub behind : Env
  pub are : externals_in_turn env all ≡ before ++ externals_in_turn behind rest
  pub role : behind.role ≡ AsOperand
  pub puts : PutsExternals externs unit before old now

abbrev pub AreLeft : Elaborator → Elaborator → List Decl → List Decl → Type 0
AreLeft old now all rest = (env : Env) → env.role ≡ AsOperand → (stand : StandIn old (externals_in_turn env all)) → IsPutUpTo stand.externs stand.unit env all rest old now

pub all_left : (walk : Elaborator) (all rest : List Decl) → rest ≡ all → AreLeft walk walk all rest
all_left walk all rest is env role stand = record {
  before = [];
  behind = env;
  are = subst (λ ds. externals_in_turn env all ≡ externals_in_turn env ds) (sym is) refl;
  role = role;
  puts = none_put stand.externs stand.unit walk;
}

pub one_less : (old now new : Elaborator) (all rest others : List Decl) (d : Decl) → rest ≡ d ∷ others → GoesOutside old now → GoesOutside now new → MakesExternal now new d →
    AreLeft old now all rest → AreLeft old new all others
one_less old now new all rest others d is on goes makes left env role stand =
    let so_far = left env role stand in
    let here = at so_far.behind (AnExternal d) in
    let are = subst (λ ds. externals_in_turn env all ≡ so_far.before ++ externals_in_turn so_far.behind ds) is so_far.are in
    let one = makes so_far.behind so_far.role (record {
      externs = stand.externs;
      unit = stand.unit;
      told = source_outside old now on stand.externs stand.unit stand.told;
      each = λ part among. stand.each part (subst (λ placed. IsIn part placed) (sym are) (in_second so_far.before _ part (in_head here _ part among)));
    }) in
    record {
      before = so_far.before ++ here ∷ [];
      behind = extend so_far.behind (external_adds so_far.behind d);
      are = are ∙ sym (append_assoc so_far.before (here ∷ []) (externals_in_turn (extend so_far.behind (external_adds so_far.behind d)) others));
      role = so_far.role;
      puts = both_put stand.externs stand.unit so_far.before (here ∷ []) old now new goes so_far.puts one;
    }
  where
    in_head : (p : Placed) (others : List Placed) (part : Placed) → IsIn part (p ∷ []) → IsIn part (p ∷ others)
    in_head p others part (inl same) = inl same
    in_head p others part (inr never) = absurd never

pub none_left : (old now : Elaborator) (all rest : List Decl) → rest ≡ [] → AreLeft old now all rest → MakesExternals old now all
none_left old now all rest is left env role stand =
    let so_far = left env role stand in
    subst (λ placed. PutsExternals stand.externs stand.unit placed old now)
    (sym (subst (λ ds. externals_in_turn env all ≡ so_far.before ++ externals_in_turn so_far.behind ds) is so_far.are ∙ append-nil so_far.before)) so_far.puts
