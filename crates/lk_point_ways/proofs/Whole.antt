-- What is asked of each point, function and root is what is asked of the program.
use Rattle.std.proofs.Common.{◌≡◌, ◌<◌, ℕ, [], length, true, Some, sym, subst, inl, inr, ◌∙◌}
use Rattle.std.specs.Option.{option_map_or}
use Rattle.std.proofs.lemmas.Bool.{false≢true}
use Rattle.std.proofs.lemmas.Option.{same_Some, slice_get_cases}
use Rattle.lk_facts.specs.Lowered.{IsEntry, IsExitOfOne}
use Rattle.lk_facts.specs.Program.{action_at, function_at, entry_of, exit_of, function_of_kind}
use Rattle.lk_facts.specs.Reach.{IsNext}
use Rattle.lk_facts.specs.declared.action.Action.{Action}
use Rattle.lk_facts.specs.declared.action.Action.TheVariants.{Release}
use Rattle.lk_facts.specs.declared.point.Point.{Point}
use Rattle.lk_facts.specs.declared.program.Program.{Program}
use Rattle.lk_sets.specs.Ids.{has_id}
use Rattle.lk_point_ways.specs.Kept.{KeepPoints, KeepFunctions, KeepRoots}
use Rattle.lk_point_ways.specs.PointWays.{KeepWays}
use Rattle.lk_point_ways.proofs.Below.{read_within, found_within, read_at}

module _ (program : Program) where
  point_within : (p : ℕ) (action : Action) → action_at program p ≡ Some action → p < length program.points
  point_within p action at = read_within (λ point. point.action) program.points p action at

  stands_within : (p f : ℕ) → function_at program p ≡ Some f → p < length program.points
  stands_within p f at = read_within (λ point. point.function) program.points p f at

  next_within : (p q : ℕ) → IsNext program p q → p < length program.points
  next_within p q next =
      elim (slice_get_cases program.points p).1 [
        | inl found ↦ found.1
        | inr past ↦ absurd (false≢true (subst (λ point. has_id (option_map_or (λ (x : Point). x.next) point []) q ≡ true) past.1 next))
      ]

  exit_function : (f e : ℕ) → exit_of program f ≡ Some e → f < length program.functions
  exit_function f e is = read_within (λ function. function.exit) program.functions f e is

  entry_function : (f e : ℕ) → entry_of program f ≡ Some e → f < length program.functions
  entry_function f e is = read_within (λ function. function.entry) program.functions f e is

  -- no point leads to an entry: one that leads there stands in its function
  is_entry : KeepPoints program → KeepFunctions program → (f e : ℕ) → entry_of program f ≡ Some e → IsEntry program f e
  is_entry points functions f e is =
      let less = entry_function f e is in
      let own = (functions f less).entry e is in
      record {
        stands = own.stands;
        skips = own.skips;
        first = λ q next.
            let from = points q (next_within q e next) in
            (from.goes f (sym (from.successors e next) ∙ own.stands) less).entry e is next;
      }

  pub whole : KeepPoints program → KeepFunctions program → KeepRoots program → KeepWays program
  whole points functions roots = record {
    operands = λ p action at. (points p (point_within p action at)).operands action at;
    successors = λ p q next. (points p (next_within p q next)).successors q next;
    function_roots = λ f r. (
      (λ is. (functions f (read_within (λ function. function.root) program.functions f r is)).root_ r is),
      (λ of. roots r (found_within (λ root. function_of_kind root.kind root.function) program.roots r f of) f of),
    );
    entries = is_entry points functions;
    exits = λ f e is. (functions f (exit_function f e is)).exit e is;
    returns = λ p f e a at stands is. ((points p (stands_within p f stands)).goes f stands (exit_function f e is)).returns e a at is;
    waits = λ p q cond mutex at next. (points p (point_within p (Release cond mutex) at)).waits q cond mutex at next;
    mains = λ p action at named. (points p (point_within p action at)).mains action at named;
    ways = λ p f action at stands less none.
        let exit = read_at (λ function. function.exit) program.functions f less in
        ((points p (stands_within p f stands)).goes f stands less).ways exit.0 action at exit.1 (λ same. none (f, subst (λ e. exit_of program f ≡ Some e) (sym same) exit.1));
  }

  -- a point of a function that is an exit is that of this function
  own_exit : KeepWays program → (p f e : ℕ) → function_at program p ≡ Some f → exit_of program f ≡ Some e → IsExitOfOne program p → p ≡ e
  own_exit keeps p f e stands is one =
      let same : one.0 ≡ f = same_Some _ _ (sym (keeps.exits one.0 p one.1).stands ∙ stands) in
      same_Some _ _ (sym (subst (λ g. exit_of program g ≡ Some p) same one.1) ∙ is)

  pub points_kept : KeepWays program → KeepPoints program
  points_kept keeps p within = record {
    operands = keeps.operands p;
    successors = keeps.successors p;
    waits = keeps.waits p;
    mains = keeps.mains p;
    goes = λ f stands less. record {
      entry = λ e is next. (keeps.entries f e is).first p next;
      returns = λ e a at is. keeps.returns p f e a at stands is;
      ways = λ e action at is apart. keeps.ways p f action at stands less (λ one. apart (own_exit keeps p f e stands is one));
    };
  }

  pub functions_kept : KeepWays program → KeepFunctions program
  functions_kept keeps f less = record {
    root_ = λ r is. (keeps.function_roots f r).0 is;
    entry = λ e is. let own = keeps.entries f e is in record { stands = own.stands; skips = own.skips };
    exit = keeps.exits f;
  }

  pub roots_kept : KeepWays program → KeepRoots program
  roots_kept keeps r less f of = (keeps.function_roots f r).1 of
