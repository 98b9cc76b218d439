-- What is performed once: `main` is entered by no point and is no value; and of the function of a point that is performed once there is one
-- site at most, which is performed once itself, and it is no value.
use Rattle.std.proofs.Common.{◌≡◌, ◌⊎◌, ℕ, Bool, true, [], Option, None, Some, inl, inr, refl, ap, ◌∙◌}
use Rattle.std.proofs.lemmas.Bool.{false≢true, cases_eq}
use Rattle.std.proofs.lemmas.Option.{none-some, same_Some}
use Rattle.std.specs.Option.{option_map, option_map_or}
use Rattle.std.specs.Prelude.{slice_get}
use Rattle.lk_facts.specs.Basis.{Basis}
use Rattle.lk_facts.specs.Doing.Runs.{call, pointer}
use Rattle.lk_facts.specs.Doing.Starts.{create}
use Rattle.lk_facts.specs.Effects.{effect_of, entered}
use Rattle.lk_facts.specs.Lowered.{IsLowered, named_function}
use Rattle.lk_facts.specs.Many.{IsSiteOf, IsOnce}
use Rattle.lk_facts.specs.Many.Many.{again, value, sites, site}
use Rattle.lk_facts.specs.Program.{effect_at, function_at, value_site_of}
use Rattle.lk_facts.specs.Reach.{IsNext, After, Plus}
use Rattle.lk_facts.specs.Reach.Plus.{one, more}
use Rattle.lk_facts.specs.declared.action.Action.{Action}
use Rattle.lk_facts.specs.declared.action.Action.TheVariants as action
use Rattle.lk_facts.specs.declared.effect.Effect.{Effect}
use Rattle.lk_facts.specs.declared.effect.Effect.TheVariants as effect
use Rattle.lk_facts.specs.declared.point.Point.{Point}
use Rattle.lk_facts.specs.declared.program.Program.{Program}
use Rattle.lk_facts.specs.declared.way.Way.{Way}
use Rattle.lk_sets.specs.Ids.{has_id}
use Rattle.lk_trails.specs.Trails.{GoesInto}
use Rattle.lk_trails.specs.Trails.GoesInto.{run, start}

-- an action that enters a function names it
entered_named : (a : Action) (f : ℕ) → entered (effect_of a) ≡ Some f → named_function a ≡ Some f
entered_named (action.Func g) f h = absurd (none-some f h)
entered_named (action.Call g args) f h = h
entered_named (action.Create g a) f h = h
entered_named (action.Value number ty) f h = h
entered_named (action.Null ty) f h = h
entered_named action.SelfId f h = h
entered_named (action.Root r) f h = h
entered_named (action.Text r) f h = h
entered_named (action.Field a member) f h = h
entered_named (action.Index a b into) f h = h
entered_named (action.Read a raw) f h = h
entered_named (action.Write a b raw) f h = h
entered_named (action.SlotRead s) f h = h
entered_named (action.SlotWrite s a) f h = h
entered_named (action.Unary op a) f h = h
entered_named (action.Binary op a b) f h = h
entered_named (action.Compute args ty equal) f h = h
entered_named (action.Convert a ty) f h = h
entered_named (action.Branch a) f h = h
entered_named (action.Switch a cases) f h = h
entered_named action.Skip f h = h
entered_named (action.PointerCall a args) f h = h
entered_named (action.Return a) f h = h
entered_named (action.StoreId a) f h = h
entered_named (action.Join a) f h = h
entered_named (action.Detach a) f h = h
entered_named action.ExitThread f h = h
entered_named action.ExitProcess f h = h
entered_named (action.Lock a) f h = h
entered_named (action.Unlock a) f h = h
entered_named (action.Release cond mutex) f h = h
entered_named (action.Retake a) f h = h
entered_named (action.Init a) f h = h
entered_named (action.Destroy a) f h = h
entered_named (action.Signal a) f h = h
entered_named (action.Allocate ty count zero root) f h = h
entered_named (action.Free a) f h = h
entered_named (action.Scan a) f h = h
entered_named (action.Fill a place named) f h = h

module _ (program : Program) where
  -- ---- main

  -- a point with an effect is there
  point_with : (p : ℕ) (e : Effect) → effect_at program p ≡ Some e → (point : Point) × (slice_get program.points p ≡ Some point) × (effect_of point.action ≡ e)
  point_with p e h = by (slice_get program.points p) refl h
    where
      by : (found : Option Point) → slice_get program.points p ≡ found → option_map (λ (point : Point). effect_of point.action) found ≡ Some e →
          (point : Point) × (slice_get program.points p ≡ Some point) × (effect_of point.action ≡ e)
      by None is h = absurd (none-some e h)
      by (Some point) is h = (point, is, same_Some (effect_of point.action) e h)

  -- main has no site
  pub no_site : IsLowered program → (q : ℕ) → IsSiteOf program program.main q → ⊥
  no_site lowered q at =
      let found = point_with q at.effect at.is in
      let enters : entered (effect_of found.0.action) ≡ Some program.main = ap entered found.2 ∙ at.enters in
      lowered.mains q found.0.action (ap (option_map (λ (point : Point). point.action)) found.1) (entered_named found.0.action program.main enters)

  -- main is no value
  pub no_value : IsLowered program → (i : ℕ) → value_site_of program program.main ≡ Some i → ⊥
  no_value lowered i at = let used = (lowered.value_sites program.main).0 (i, at) in lowered.mains used.0 (action.Func program.main) used.1 refl

  -- ---- a point that is performed once

  pub once_value : (p f i : ℕ) → IsOnce program p → function_at program p ≡ Some f → value_site_of program f ≡ Some i → ⊥
  once_value p f i once at used = once (value at used)

  -- its function has one site
  pub once_sites : (p f q r : ℕ) → IsOnce program p → function_at program p ≡ Some f → IsSiteOf program f q → IsSiteOf program f r → q ≡ r
  once_sites p f q r once at site_q site_r = elim (cases_eq q r) [
    | inl same ↦ same
    | inr other ↦ absurd (once (sites at site_q site_r other))
  ]

  -- which is performed once
  pub once_site : (p f q : ℕ) → IsOnce program p → function_at program p ≡ Some f → IsSiteOf program f q → IsOnce program q
  once_site p f q once at site_q = λ many. once (site at site_q many)

  on_way : {a b : ℕ} → After program a b → Plus (IsNext program) a b
  on_way (one next) = one next.0
  on_way (more next rest) = more next.0 (on_way rest)

  -- control doesn't come back to it
  pub once_after : (p : ℕ) → IsOnce program p → After program p p → ⊥
  once_after p once after = once (again (on_way after))

  -- ---- points in functions

  -- what has a successor stands in a function
  pub stands_somewhere : (p q : ℕ) → IsNext program p q → (f : ℕ) × (function_at program p ≡ Some f)
  stands_somewhere p q next = by (slice_get program.points p) refl next
    where
      by : (found : Option Point) → slice_get program.points p ≡ found → has_id (option_map_or (λ (point : Point). point.next) found []) q ≡ true → (f : ℕ) × (function_at program p ≡ Some f)
      by None is h = absurd (false≢true h)
      by (Some point) is h = (point.function, ap (option_map (λ (point : Point). point.function)) is)

-- the point goes into the function by a site, or this is a value
pub goes_by : (basis : Basis) {p f g : ℕ} {way : Way} {created : Bool} → GoesInto basis p f way g created → IsSiteOf basis.program g p ⊎ ((i : ℕ) × (value_site_of basis.program g ≡ Some i))
goes_by basis (run (call g i does own)) = inl (record { live = does.live; effect = effect.Runs g; is = does.is; enters = refl })
goes_by basis (run (pointer g a i does may)) = inr (i, may.own_site)
goes_by basis (start (create g i does own)) = inl (record { live = does.live; effect = effect.Starts g; is = does.is; enters = refl })

-- and it stands in its own function
pub goes_from : (basis : Basis) {p f g : ℕ} {way : Way} {created : Bool} → GoesInto basis p f way g created → function_at basis.program p ≡ Some f
goes_from basis (run (call g i does own)) = does.of
goes_from basis (run (pointer g a i does may)) = does.of
goes_from basis (start (create g i does own)) = does.of
