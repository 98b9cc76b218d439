-- Each frame of a trail is entered from the one before it, and the first is one of `main`: so it stays, whatever its thread does next.
use Rattle.std.proofs.Common.{◌≡◌, ℕ, Bool, true, false, List, [], ◌∷◌, ◌++◌, Some, None, Option, refl, sym, ap, subst, ◌∙◌}
use Rattle.std.proofs.lemmas.Option.{none-some, same_Some, slice_get_within}
use Rattle.std.specs.Option.{option_map}
use Rattle.std.specs.Prelude.{slice_get, ◌<◌}
use Rattle.lk_facts.specs.Basis.{Basis}
use Rattle.lk_facts.specs.Doing.Runs.{call, pointer}
use Rattle.lk_facts.specs.Doing.Starts.{create}
use Rattle.lk_facts.specs.Live.{IsReached}
use Rattle.lk_facts.specs.Live.IsReached.{entry as reached_entry}
use Rattle.lk_facts.specs.Lowered.{IsLowered}
use Rattle.lk_facts.specs.Program.{entry_of, function_at, live_at}
use Rattle.lk_facts.specs.Reach.{IsLiveNext}
use Rattle.lk_facts.specs.declared.function.Function.{Function}
use Rattle.lk_facts.specs.declared.way.Way.{Way}
use Rattle.lk_trails.specs.Trails.{Act, Stay, Left, Trail, stay, left_at, trail, first_of, whole, GoesInto, Enters, Begins, IsLinked, IsFromMain, Moves, ArePasts}
use Rattle.lk_trails.specs.Trails.GoesInto.{run, start}
use Rattle.lk_trails.specs.Trails.IsLinked.{only, more}
use Rattle.lk_trails.specs.Trails.Moves.{goes, calls, returns}
use Rattle.lk_trails.proofs.Members.{get_within}
use Rattle.lk_trails.proofs.Parting.{heads, tails, none_more, first_more}

-- a list with something in it isn't empty
none_behind : {X : Type 0} → (left : List X) (x : X) (rest : List X) → [] ≡ left ++ x ∷ rest → ⊥
none_behind [] x rest h = none_more x rest (sym h)
none_behind (y ∷ left) x rest h = none_more y (left ++ x ∷ rest) (sym h)

none_in_both : {X : Type 0} → (xs ys : List X) → [] ≡ xs ++ ys → [] ≡ ys
none_in_both [] ys h = h
none_in_both (x ∷ xs) ys h = absurd (none_more x (xs ++ ys) (sym h))

-- the trail to a frame that was left begins where the whole does
first_before : (left : List Left) (x : Left) (rest : List Left) (top : Stay) → first_of (left ++ x ∷ rest) top ≡ first_of left x.at
first_before [] x rest top = refl
first_before (y ∷ left) x rest top = refl

module _ (basis : Basis) where
  -- what goes into a function is live, and stands in one
  pub source_there : {p f g : ℕ} {way : Way} {created : Bool} → GoesInto basis p f way g created → (live_at basis.program p ≡ true) × (function_at basis.program p ≡ Some f)
  source_there (run (call g i does site)) = (does.live, does.of)
  source_there (run (pointer g a i does may)) = (does.live, does.of)
  source_there (start (create g i does site)) = (does.live, does.of)

  -- up to a frame that was left
  pub linked_before : {all : List Left} {top : Stay} → IsLinked basis all top → (left : List Left) (x : Left) (rest : List Left) → all ≡ left ++ x ∷ rest → IsLinked basis left x.at
  linked_before (only top f live function) left x rest h = absurd (none_behind left x rest h)
  linked_before (more y all top enters linked) [] x rest h =
      let from = source_there enters.goes in
      subst (λ (z : Left). IsLinked basis [] z.at) (heads y x all rest h) (only y.at enters.f from.0 from.1)
  linked_before (more y all top enters linked) (z ∷ left) x rest h =
      let behind : all ≡ left ++ x ∷ rest = tails y z all (left ++ x ∷ rest) h in
      let first : first_of all top ≡ first_of left x.at = ap (λ ls. first_of ls top) behind ∙ first_before left x rest top in
      subst (λ (w : Left). IsLinked basis (w ∷ left) x.at) (heads y z all (left ++ x ∷ rest) h)
      (more y left x.at (subst (λ (s : Stay). Enters basis y.at y.created s) first enters) (linked_before linked left x rest behind))

  -- from a frame on
  pub linked_after : {all : List Left} {top : Stay} → IsLinked basis all top → (born left : List Left) → all ≡ born ++ left → IsLinked basis left top
  linked_after (only top f live function) born left h = subst (λ ls. IsLinked basis ls top) (none_in_both born left h) (only top f live function)
  linked_after (more x rest top enters linked) [] left h = subst (λ ls. IsLinked basis ls top) h (more x rest top enters linked)
  linked_after (more x rest top enters linked) (y ∷ born) left h = linked_after linked born left (tails x y rest (born ++ left) h)

  -- it goes into a function
  pub linked_enters : {left : List Left} {top : Stay} → IsLinked basis left top → (created : Bool) (to : Stay) → Enters basis top created to → live_at basis.program to.point ≡ true →
      IsLinked basis (left ++ left_at top created ∷ []) to
  linked_enters (only top f live function) created to enters live_to = more (left_at top created) [] to enters (only to enters.g live_to enters.stands)
  linked_enters (more x rest top before linked) created to enters live_to =
      more x (rest ++ left_at top created ∷ []) to (subst (λ (s : Stay). Enters basis x.at x.created s) (sym (first_more rest top to created)) before) (linked_enters linked created to enters live_to)

  module _ (lowered : IsLowered basis.program) where
    -- a function begins at a live point
    pub entry_live : (f e : ℕ) → entry_of basis.program f ≡ Some e → live_at basis.program e ≡ true
    entry_live f e is = by (slice_get basis.program.functions f) refl is
      where
        by : (found : Option Function) → slice_get basis.program.functions f ≡ found → option_map (λ (function : Function). function.entry) found ≡ Some e → live_at basis.program e ≡ true
        by None none is = absurd (none-some e is)
        by (Some function) there is = (lowered.live e).1 (subst (λ p. IsReached basis.program.points basis.program.functions p) (same_Some function.entry e is) (reached_entry f function there))

    enters_goes : (out : Stay) (created : Bool) (top : Stay) (q : ℕ) → Enters basis out created top → IsLiveNext basis.program top.point q → Enters basis out created (stay q top.context)
    enters_goes out created top q enters next = record {
      f = enters.f;
      g = enters.g;
      way = enters.way;
      goes = enters.goes;
      stands = lowered.successors top.point q next.0 ∙ enters.stands;
      inside = enters.inside;
    }

    -- it goes on
    pub linked_goes : {left : List Left} {top : Stay} → IsLinked basis left top → (q : ℕ) → IsLiveNext basis.program top.point q → IsLinked basis left (stay q top.context)
    linked_goes (only top f live function) q next = only (stay q top.context) f next.1 (lowered.successors top.point q next.0 ∙ function)
    linked_goes (more x [] top enters linked) q next = more x [] (stay q top.context) (enters_goes x.at x.created top q enters next) (linked_goes linked q next)
    linked_goes (more x (y ∷ rest) top enters linked) q next = more x (y ∷ rest) (stay q top.context) enters (linked_goes linked q next)

    -- ---- it begins in main

    first_stands : (left : List Left) (top : Stay) (q m : ℕ) → IsLiveNext basis.program top.point q → function_at basis.program (first_of left top).point ≡ Some m →
        function_at basis.program (first_of left (stay q top.context)).point ≡ Some m
    first_stands [] top q m next is = lowered.successors top.point q next.0 ∙ is
    first_stands (x ∷ left) top q m next is = is

    first_context : (left : List Left) (top : Stay) (q : ℕ) → (first_of left (stay q top.context)).context ≡ (first_of left top).context
    first_context [] top q = refl
    first_context (x ∷ left) top q = refl

    pub main_goes : (left : List Left) (top : Stay) (q : ℕ) → IsLiveNext basis.program top.point q → IsFromMain basis (trail left top) → IsFromMain basis (trail left (stay q top.context))
    main_goes left top q next is = record {
      linked = linked_goes is.linked q next;
      main = first_stands left top q basis.program.main next is.main;
      empty = first_context left top q ∙ is.empty;
    }

    pub main_enters : (left : List Left) (top to : Stay) (created : Bool) → Begins basis top created to → IsFromMain basis (trail left top) →
        IsFromMain basis (trail (left ++ left_at top created ∷ []) to)
    main_enters left top to created begins is =
        let first = sym (first_more left top to created) in
        record {
          linked = linked_enters is.linked created to begins.enters (entry_live begins.enters.g to.point begins.entry);
          main = subst (λ (s : Stay). function_at basis.program s.point ≡ Some basis.program.main) first is.main;
          empty = subst (λ (s : Stay). s.context ≡ []) first is.empty;
        }

    -- the trail up to the caller
    main_before : (left : List Left) (caller top : Stay) (created : Bool) → IsFromMain basis (trail (left ++ left_at caller created ∷ []) top) → IsFromMain basis (trail left caller)
    main_before left caller top created is =
        let first = first_before left (left_at caller created) [] top in
        record {
          linked = linked_before is.linked left (left_at caller created) [] refl;
          main = subst (λ (s : Stay). function_at basis.program s.point ≡ Some basis.program.main) first is.main;
          empty = subst (λ (s : Stay). s.context ≡ []) first is.empty;
        }

    pub main_moves : {act : Act} {s t : Trail} → Moves basis act s t → IsFromMain basis s → IsFromMain basis t
    main_moves (goes left p q c runs next) is = main_goes left (stay p c) q next is
    main_moves (calls left top to begins) is = main_enters left top to false begins is
    main_moves (returns left caller top q enters return next) is = main_goes left caller q next (main_before left caller top false is)

  -- ---- the trail of a thread's own frames

  pub whole_linked : (born : List Left) (own : Trail) → IsFromMain basis (whole born own) → IsLinked basis own.left own.top
  whole_linked born own is = linked_after is.linked born own.left refl

  -- a thread that is there was born
  pub birth_of : (born : List (List Left)) (trails : List Trail) → ArePasts basis born trails → (t : ℕ) (own : Trail) → slice_get trails t ≡ Some own → (b : List Left) × (slice_get born t ≡ Some b)
  birth_of born trails are t own there = get_within born t (subst (λ n. t < n) (sym are.many) (slice_get_within trails t own there))

  -- so each frame of a thread is entered from the one before it
  pub linked_own : (born : List (List Left)) (trails : List Trail) → ArePasts basis born trails → (t : ℕ) (own : Trail) → slice_get trails t ≡ Some own → IsLinked basis own.left own.top
  linked_own born trails are t own there = let b = birth_of born trails are t own there in whole_linked b.0 own (are.from_main t b.0 own b.1 there)
