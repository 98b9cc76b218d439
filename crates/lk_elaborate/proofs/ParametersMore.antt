-- Locals are put one after the other, those of the parameters of a definition first (C99 6.9.1, 9).
use Rattle.std.proofs.Common.{◌≡◌, ◌∙◌, ◌++◌, ℕ, List, [], ◌∷◌, Some, None, refl, sym, ap, subst}
use Rattle.std.proofs.lemmas.List.{append-nil, append_assoc}
use Rattle.lk_types.proofs.GrowLemmas.{longer_same}
use Rattle.lk_tree.specs.declared.expression.Parameter.{Parameter, out-Parameter}
use Rattle.lk_tree.specs.declared.statement.Unit.{Unit}
use Rattle.lk_typed.specs.Env.{Name}
use Rattle.lk_typed.specs.Locals.{StandsAtName, parameter_name}
use Rattle.lk_typed.specs.Locals.StandsAtName.{named, unnamed}
use Rattle.lk_typed.specs.Told.{Named}
use Rattle.lk_typed.specs.declared.unit.Local.{Local}
use Rattle.lk_elaborator.specs.Leading.{GoesOn}
use Rattle.lk_elaborator.specs.PuttingLocals.{IsLocalSo, PutsLocal, PutsLocalOf}
use Rattle.lk_elaborator.specs.declared.elaborator.Elaborator.{Elaborator}
use Rattle.lk_elaborate.specs.PuttingParameters.{AreParametersSo, IsParameterSo, PutsMore, PutsParameter, PutsTyped}
use Rattle.lk_elaborate.specs.PuttingParameters.AreParametersSo.{all_put, one_put}

-- ---- states

pub puts_none : (walk : Elaborator) → PutsMore walk walk []
puts_none walk = record { same = refl; list = sym (append-nil walk.locals.list.items); kept = λ n e is. is; numbered = λ are. are; rise = λ rise. rise }

puts_one : (a b c : Elaborator) (locals : List Local) (local : Local) → PutsMore a b locals → PutsLocal b c local → PutsMore a c (locals ++ local ∷ [])
puts_one a b c locals local first one = record {
  same = one.same ∙ ap (λ (walk : Elaborator). record walk { locals = c.locals }) first.same;
  list = one.puts.list ∙ (ap (λ before. before ++ local ∷ []) first.list ∙ append_assoc a.locals.list.items locals (local ∷ []));
  kept = λ n e is. one.puts.kept n e (first.kept n e is);
  numbered = λ are. one.puts.numbered (first.numbered are);
  rise = λ rise. one.puts.rise (first.rise rise);
}

-- what was found and the types and entities stay as they were
pub goes_more : (old new : Elaborator) (locals : List Local) → PutsMore old new locals → GoesOn old new
goes_more old new locals puts = subst (GoesOn old) (sym puts.same) beside
  where
    beside : GoesOn old (record old { locals = new.locals })
    beside = record {
      longer = longer_same old.types;
      members = refl;
      ready = λ ready. ready;
      entities = λ n e is. is;
      locals = λ n l is. puts.kept n l is;
      records = refl;
      names = refl;
      outside = refl;
    }

-- ---- one parameter

-- where it has this name
stands_named : (p : Parameter) (local : Local) (name : Named) → Some name ≡ parameter_name p → local.name ≡ name.name → local.spot ≡ name.spot → local.ordinal ≡ name.ordinal →
    (externs : List Name) (unit : Unit) → StandsAtName externs unit p local (parameter_name p)
stands_named p local name is a b c externs unit = subst (StandsAtName externs unit p local) is (named a b c)

pub named_put : (old new : Elaborator) (p : Parameter) (t : ℕ) (name : Named) → Some name ≡ parameter_name p → PutsLocalOf old new name.name t name.spot name.ordinal → PutsParameter old new p t
named_put old new p t name is puts =
    let local : Local = record { name = name.name; ty = t; spot = name.spot; ordinal = name.ordinal; is_slot = puts.0 } in
    record { local = local; puts = puts.1; is = record { type = refl; stands = stands_named p local name is refl refl refl; so = puts.1.so } }

-- where it has none
pub unnamed_put : (old new : Elaborator) (p : Parameter) (t : ℕ) → None ≡ parameter_name p → PutsLocalOf old new [] t (out-Parameter p).spot (out-Parameter p).ordinal → PutsParameter old new p t
unnamed_put old new p t is puts =
    let local : Local = record { name = []; ty = t; spot = (out-Parameter p).spot; ordinal = (out-Parameter p).ordinal; is_slot = puts.0 } in
    record {
      local = local;
      puts = puts.1;
      is = record { type = refl; stands = λ externs unit. subst (StandsAtName externs unit p local) is (unnamed refl refl refl); so = puts.1.so };
    }

-- a parameter is so in each state with these types and records
so_before : (old now : Elaborator) (p : Parameter) (t : ℕ) (local : Local) → now ≡ record old { locals = now.locals } → IsParameterSo now p t local → IsParameterSo old p t local
so_before old now p t local same is = record { type = is.type; stands = is.stands; so = by_so (subst (λ walk. IsLocalSo walk local) same is.so) }
  where
    by_so : IsLocalSo (record old { locals = now.locals }) local → IsLocalSo old local
    by_so so = record { known = so.known; slot = so.slot }

-- ---- one after the other

-- those before are put
pub record ArePutSoFar (old now : Elaborator) (ps : List Parameter) (ts : List ℕ) (ps_left : List Parameter) (ts_left : List ℕ) : Type 0 where
  pub locals : List Local
  pub puts : PutsMore old now locals
  pub are : (rest : List Local) → AreParametersSo old ps_left ts_left rest → AreParametersSo old ps ts (locals ++ rest)

pub none_so_far : (walk : Elaborator) (ps : List Parameter) (ts : List ℕ) → ArePutSoFar walk walk ps ts ps ts
none_so_far walk ps ts = record { locals = []; puts = puts_none walk; are = λ rest are. are }

pub one_so_far : (old now new : Elaborator) (ps : List Parameter) (ts : List ℕ) (ps_left ps_rest : List Parameter) (ts_left ts_rest : List ℕ) (p : Parameter) (t : ℕ) → ps_left ≡ p ∷ ps_rest → ts_left ≡ t ∷ ts_rest →
    ArePutSoFar old now ps ts ps_left ts_left → PutsParameter now new p t → ArePutSoFar old new ps ts ps_rest ts_rest
one_so_far old now new ps ts ps_left ps_rest ts_left ts_rest p t ps_is ts_is before one =
    let local = one.local in
    let so = so_before old now p t local before.puts.same one.is in
    record {
      locals = before.locals ++ local ∷ [];
      puts = puts_one old now new before.locals local before.puts one.puts;
      are = λ rest others.
          subst (AreParametersSo old ps ts) (sym (append_assoc before.locals (local ∷ []) rest))
          (before.are (local ∷ rest) (subst (λ ps. AreParametersSo old ps ts_left (local ∷ rest)) (sym ps_is) (subst (λ ts. AreParametersSo old (p ∷ ps_rest) ts (local ∷ rest)) (sym ts_is) (one_put so others))));
    }

pub all_so_far : (old new : Elaborator) (ps : List Parameter) (ts : List ℕ) (ps_left : List Parameter) (ts_left : List ℕ) → ts_left ≡ [] → ArePutSoFar old new ps ts ps_left ts_left → PutsTyped old new ps ts
all_so_far old new ps ts ps_left ts_left is before = record {
  locals = before.locals;
  puts = before.puts;
  are = subst (AreParametersSo old ps ts) (append-nil before.locals) (before.are [] (subst (λ ts. AreParametersSo old ps_left ts []) (sym is) all_put));
}
