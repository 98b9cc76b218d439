-- The points and functions of a program, with what follows from one another.
use Rattle.std.proofs.Common.{ap, sym, subst, ◌∙◌, ◌≡◌, ◌+◌, ℕ, zero, suc, Bool, List, [], ◌∷◌, length, get_or, slice_get, Option, Some, refl}
use Rattle.std.proofs.lemmas.Option.{none-some, same_Some}
use Rattle.lk_facts.specs.declared.function.Function.{Function}
use Rattle.lk_facts.specs.declared.point.Point.{Point}
use Rattle.lk_facts.specs.declared.program.Program.{Program}
use Rattle.lk_lower_expr.specs.Lowering.{IsPointOf, StandsIn}
use Rattle.lk_lower_expr.specs.Programs.{IsBody}
use Rattle.lk_lower_expr.specs.declared.step.Step.{Step}
use Rattle.lk_lower_parts.specs.MadeFunctions.{AreMade, IsMade, StandsGiven}
use Rattle.lk_lower_parts.specs.Sites.{HaveSites, behind_site, has_site, site_by, sited, valued, with_site, with_value_site}
use Rattle.lk_lower_parts.specs.declared.names.Given.{Given}
use Rattle.lk_lower_unit.proofs.Living.{have_life}
use Rattle.lk_lower_unit.specs.Made.{IsCode}
use Rattle.lk_lower_unit.specs.Placed.{AreAlive, AreAllPlaced, lived, numbers_of, point_of, with_life}
use Rattle.lk_lower_unit.specs.declared.programs.Code.{Code}
use Rattle.lk_typed.specs.declared.unit.Body.{Body}
use Rattle.lk_typed.specs.declared.whole.Linked.{Linked}
use Rattle.lk_typed.specs.declared.whole.Whole.{Whole}
use Rattle.lk_types.specs.Table.{Table}

lived_at : (live : List Bool) (points : List Point) (n : ℕ) (point : Point) → slice_get points n ≡ Some point → (l : Bool) × (slice_get (lived live points) n ≡ Some (with_life l point))
lived_at [] points n point at = (point.live, at)
lived_at (l ∷ live) [] n point at = absurd (none-some point at)
lived_at (l ∷ live) (one ∷ points) zero point at = (l, ap (λ p. Some (with_life l p)) (same_Some one point at))
lived_at (l ∷ live) (one ∷ points) (suc n) point at = lived_at live points n point at

length_lived : (live : List Bool) (points : List Point) → length (lived live points) ≡ length points
length_lived [] points = refl
length_lived (l ∷ live) [] = refl
length_lived (l ∷ live) (one ∷ points) = ap suc (length_lived live points)

sited_at : (points : List Point) (m n : ℕ) (point : Point) → slice_get points n ≡ Some point → (site : Option ℕ) × (slice_get (sited m points) n ≡ Some (with_site site point))
sited_at [] m n point at = absurd (none-some point at)
sited_at (one ∷ points) m zero point at = (site_by (has_site one) m, ap (λ p. Some (with_site (site_by (has_site one) m) p)) (same_Some one point at))
sited_at (one ∷ points) m (suc n) point at = sited_at points (behind_site (has_site one) m) n point at

length_sited : (points : List Point) (m : ℕ) → length (sited m points) ≡ length points
length_sited [] m = refl
length_sited (one ∷ points) m = ap suc (length_sited points (behind_site (has_site one) m))

valued_at : (used : List Bool) (functions : List Function) (m f : ℕ) (is : Function) → slice_get functions f ≡ Some is → (site : Option ℕ) × (slice_get (valued m used functions) f ≡ Some (with_value_site site is))
valued_at [] functions m f is at = (is.value_site, at)
valued_at (has ∷ used) [] m f is at = absurd (none-some is at)
valued_at (has ∷ used) (one ∷ functions) m zero is at = (site_by has m, ap (λ x. Some (with_value_site (site_by has m) x)) (same_Some one is at))
valued_at (has ∷ used) (one ∷ functions) m (suc f) is at = valued_at used functions (behind_site has m) f is at

length_valued : (used : List Bool) (functions : List Function) (m : ℕ) → length (valued m used functions) ≡ length functions
length_valued [] functions m = refl
length_valued (has ∷ used) [] m = refl
length_valued (has ∷ used) (one ∷ functions) m = ap suc (length_valued used functions (behind_site has m))

-- a function is the same with its site
made_with_site : (whole : Whole) (s : ℕ) (linked : Linked) (body : Body) (n : ℕ) (points by_node slots : List ℕ) (is : Function) (site : Option ℕ) → IsMade whole s linked body n points by_node slots is → IsMade whole s linked body n points by_node slots (with_value_site site is)
made_with_site whole s linked body n points by_node slots is site made = record {
  entity = made.entity;
  here = made.here;
  by = made.by;
  at = made.at;
  own = made.own;
  declared = made.declared;
  name = made.name;
  root_ = made.root_;
  entry = made.entry;
  exit = made.exit;
  parameters = made.parameters;
  result = made.result;
  slots_ = made.slots_;
}

module _ (given : Given) (table : Table) (slots : List (List ℕ)) (count : ℕ) (all alive points : List Point) (functions sited_functions : List Function) (sites : ℕ) (code : Code) (placed : AreAllPlaced given table count all) (are_alive : AreAlive functions all alive)
    (made : AreMade given slots functions) (have : HaveSites alive points functions sited_functions sites) (points_put : code.points.items ≡ points) (functions_put : code.functions.items ≡ sited_functions) (sites_put : code.sites ≡ sites) where
  many_points : length points ≡ count
  many_points = ap length have.points_ ∙ (length_sited alive 0 ∙ (ap length are_alive.said ∙ (length_lived are_alive.live all ∙ placed.as_many)))

  point_there : (program : Program) → program.points ≡ code.points.items → given.functions.now.count ≡ length program.functions → (s o k : ℕ) (is : Step) (function : ℕ) → StandsIn given.whole.now (numbers_of given table) program s o k is function →
      IsPointOf given.whole.now (numbers_of given table) program ((numbers_of given table).point s o k) is function
  point_there program points_are counted s o k is function stands =
      let at_first = placed.placed program s o k is function counted stands in
      let at_alive = lived_at are_alive.live all ((numbers_of given table).point s o k) (point_of is function) at_first in
      let at_sited = sited_at alive 0 ((numbers_of given table).point s o k) (with_life at_alive.0 (point_of is function)) (subst (λ xs. slice_get xs ((numbers_of given table).point s o k) ≡ Some (with_life at_alive.0 (point_of is function))) (sym are_alive.said) at_alive.1) in
      record {
        point = with_site at_sited.0 (with_life at_alive.0 (point_of is function));
        at = subst (λ xs. slice_get xs ((numbers_of given table).point s o k) ≡ Some (with_site at_sited.0 (with_life at_alive.0 (point_of is function)))) (sym (points_are ∙ (points_put ∙ have.points_))) at_sited.1;
        does = refl;
        gives = refl;
        leads = refl;
        stands = refl;
        inside = refl;
      }

  function_there : (s b : ℕ) (linked : Linked) (body : Body) → IsBody given.whole.now.sources s b linked body → StandsGiven given slots s b linked body code.functions.items
  function_there s b linked body is_body =
      let was = made.each s b linked body is_body in
      let at_valued = valued_at have.used functions _ (get_or given.functions.now.first s 0 + b) was.0 was.1 in (
        with_value_site at_valued.0 was.0,
        subst (λ xs. slice_get xs (get_or given.functions.now.first s 0 + b) ≡ Some (with_value_site at_valued.0 was.0)) (sym (functions_put ∙ have.functions_)) at_valued.1,
        was.2,
        was.3,
        made_with_site given.whole.now s linked body (get_or given.functions.now.first s 0 + b) (get_or given.points.now s []) (get_or given.by_node.now s []) was.2 was.0 at_valued.0 was.4,
      )

  pub is_code : IsCode given table slots count code
  is_code = record {
    many = ap length points_put ∙ many_points;
    points_ = point_there;
    many_functions = ap length functions_put ∙ (ap length have.functions_ ∙ (length_valued have.used functions _ ∙ made.count));
    functions_ = function_there;
    sites_ = λ whole numbers program ps fs. have.are whole numbers program (ps ∙ points_put) (fs ∙ functions_put);
    life = λ program ps fs ss. have_life functions all alive points sited_functions sites are_alive have program (ps ∙ points_put) (fs ∙ functions_put) (ss ∙ sites_put);
  }
