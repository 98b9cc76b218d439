-- States that stay sound.
use Rattle.std.proofs.Common.{◌≡◌, ◌∙◌, ℕ, Option, Some, None, refl, sym, subst}
use Rattle.std.specs.Prelude.{IfSome}
use Rattle.lk_types.proofs.GrowLemmas.{known_same, longer_same, longer_then}
use Rattle.lk_types.specs.Building.{IsLonger}
use Rattle.lk_types.specs.Table.{IsKnown}
use Rattle.lk_names.specs.declared.names.Mark.{Mark}
use Rattle.lk_typed.specs.Faults.{Breach}
use Rattle.lk_found.specs.declared.found.At.{At}
use Rattle.lk_checker.specs.States.{IsSound, Tells}
use Rattle.lk_checker.specs.declared.checker.Checker.{Checker}
use Rattle.lk_check_unit.specs.Bodies.{Grows, IsKnownResult, Stays}
use Rattle.lk_check_unit.specs.Scoping.{Enters, IsBeside, Leaves}
use Rattle.lk_check_unit.specs.declared.body.Body.{Body}
use Rattle.lk_check_unit.proofs.Walking.{sound_as}

pub grows_none : (c : Checker) → IsSound c → Grows c c
grows_none c sound = record { sound = sound; longer = longer_same c.types }

pub grows_then : (a b c : Checker) → Grows a b → Grows b c → Grows a c
grows_then a b c p q = record { sound = q.sound; longer = longer_then a.types b.types c.types p.longer q.longer }

pub grows_beside : (a b : Checker) → IsSound a → IsBeside a b → Grows a b
grows_beside a b sound beside = record { sound = beside.sound sound; longer = subst (IsLonger a.types) (sym beside.types) (longer_same a.types) }

pub grows_told : (a b : Checker) (at : At) (broken : Option Breach) → IsSound a → Tells a b at broken → Grows a b
grows_told a b at broken sound tells = record { sound = sound_as a b tells.types tells.names sound; longer = subst (IsLonger a.types) (sym tells.types) (longer_same a.types) }

pub known_behind : (a b : Checker) (x y : Body) → IsSound a → Grows a b → y.returned ≡ x.returned → IsKnownResult a x → IsKnownResult b y
known_behind a b x y sound grows same known = subst (λ t. IfSome t (IsKnown b.types)) (sym same) (by x.returned known)
  where
    by : (t : Option ℕ) → IfSome t (IsKnown a.types) → IfSome t (IsKnown b.types)
    by None known = known
    by (Some t) known = known_same a.types b.types sound.ready.table_is grows.longer t known

pub stays_by : (a b : Checker) (x y : Body) → IsSound a → IsKnownResult a x → Grows a b → y.returned ≡ x.returned → Stays a b x y
stays_by a b x y sound known grows same = record { grows = grows; returned = same; known = known_behind a b x y sound grows same known }

pub stays_then : (a b c : Checker) (x y z : Body) → Stays a b x y → Stays b c y z → Stays a c x z
stays_then a b c x y z p q = record { grows = grows_then a b c p.grows q.grows; returned = q.returned ∙ p.returned; known = q.known }

pub stays_entered : (a b : Checker) (mark : Mark) (x : Body) → IsSound a → IsKnownResult a x → Enters a b mark → Stays a b x x
stays_entered a b mark x sound known enters = stays_by a b x x sound known (grows_beside a b sound enters.beside) refl

pub stays_left : (a b c : Checker) (mark : Mark) (x y : Body) → Stays a b x y → Leaves b c mark → Stays a c x y
stays_left a b c mark x y stays leaves = stays_then a b c x y y stays (stays_by b c y y stays.grows.sound stays.known (grows_beside b c stays.grows.sound leaves.beside) refl)

pub stays_told : (a b c : Checker) (at : At) (broken : Option Breach) (x y : Body) → Stays a b x y → Tells b c at broken → Stays a c x y
stays_told a b c at broken x y stays tells = stays_then a b c x y y stays (stays_by b c y y stays.grows.sound stays.known (grows_told b c at broken stays.grows.sound tells) refl)
