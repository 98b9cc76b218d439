-- Statements whose parts are walked, form by form.
use Rattle.std.proofs.Common.{◌≡◌, ◌∙◌, ◌++◌, ℕ, Bool, true, false, List, [], ◌∷◌, Option, Some, None, refl, sym, ap, subst}
use Rattle.std.specs.Prelude.{◌&&◌, IfOk, is_some, option_map, if◌then◌else◌}
use Rattle.std.proofs.lemmas.Result.{IfOk-weaker}
use Rattle.std.specs.declared.result.Result.{Result}
use Rattle.lk_base.specs.declared.memory.NoMemory.{NoMemory}
use Rattle.lk_base.specs.declared.code.Code.{Code}
use Rattle.lk_base.specs.declared.kind.Kind.{Kind}
use Rattle.lk_tree.specs.declared.expression.Expr.{Expr}
use Rattle.lk_tree.specs.declared.statement.BlockItem.TheOpen.{StmtForm-F}
use Rattle.lk_tree.specs.declared.statement.BlockItem.{BlockItem}
use Rattle.lk_tree.specs.declared.statement.ForFirst.{ForFirst}
use Rattle.lk_tree.specs.declared.statement.ForFirst.TheVariants as first
use Rattle.lk_tree.specs.declared.statement.Stmt.{Stmt}
use Rattle.lk_tree.specs.declared.statement.StmtForm.{StmtForm, out-StmtForm}
use Rattle.lk_typed.specs.Env.{Env, Additions, as_operand, both, enter, extend, nothing}
use Rattle.lk_typed.specs.Expressions.{expr_adds, expr_constant, expr_type, expression, has_expr_type}
use Rattle.lk_typed.specs.Faults.{Breach}
use Rattle.lk_typed.specs.NodeRules.{are_typed, for_rules, mark_of, optional_rules}
use Rattle.lk_typed.specs.Meaning.{meaning}
use Rattle.lk_typed.specs.Nodes.{AnExpression, AStatement, Placed, at}
use Rattle.lk_typed.specs.Parts.{added_by, behind, first_adds, perhaps, statement_parts}
use Rattle.lk_typed.specs.StatementRules.{Around, behind_cases, break_rules, case_rules, condition_rules, continue_rules, default_rules, dropped_rules, goto_rules, in_body_of_loop, in_body_of_switch, in_switch, label_rules, switch_rules}
use Rattle.lk_typed.specs.Statements.{Case, StmtTeller, StmtTold, adding, all_in_turn, around_behind, of_first, only, optional_adds, or_nothing, scoped, statement, switch_kind, then_told}
use Rattle.lk_typed.specs.Ty.{Ty}
use Rattle.lk_typed.specs.Typing.{Typing, constant_in}
use Rattle.lk_typed.specs.declared.constant.Constant.{Constant}
use Rattle.lk_names.specs.declared.names.Mark.{Mark}
use Rattle.lk_rules.specs.Keeping.{KeepsCodes}
use Rattle.lk_check_decl.specs.declared.switches.Switch.{Switch}
use Rattle.lk_check_decl.specs.Breaches.{told}
use Rattle.lk_check_decl.specs.Switches.{switch_of}
use Rattle.lk_labels.specs.Leasts.{AreLabels}
use Rattle.lk_found.proofs.Environments.{extend_both}
use Rattle.lk_checker.specs.States.{IsSound, Tells, kept_in}
use Rattle.lk_checker.specs.declared.checker.Checker.{Checker}
use Rattle.lk_check_walk.proofs.Gathers.{both_assoc}
use Rattle.lk_check_walk.proofs.Walking.{no_walk}
use Rattle.lk_check_walk.specs.Walks.{Walks}
use Rattle.lk_check_unit.specs.Asking.{WalksOperand, value_in}
use Rattle.lk_check_unit.specs.Bodies.{Asks, IsAround, IsKnownResult, IsPlain, IsRound, Passes, WalksForm, WalksHead, WalksItems, WalksReturn, WalksScoped, WalksStatement, WalksTurning, at_stmt, form_breaches, head_adds, head_parts, name_told}
use Rattle.lk_rules.specs.Statements.{items_told, told_of}
use Rattle.lk_check_unit.specs.Scoping.{Enters, Leaves}
use Rattle.lk_check_unit.specs.declared.body.Asked.{Asked}
use Rattle.lk_check_unit.specs.declared.body.Body.{Body}
use Rattle.lk_check_unit.proofs.Arounds.{behind_default}
use Rattle.lk_check_unit.proofs.Codes.{codes_told}
use Rattle.lk_check_unit.proofs.Nameless.{breaches_tell}
use Rattle.lk_check_unit.proofs.Passing.{passes_behind, passes_only, passes_scoped, passes_then}
use Rattle.lk_check_unit.proofs.Walkers.{Walker, adds_only, adds_then, ends, scopes, walks_then as walkers_then}
use Rattle.lk_check_unit.proofs.Standing.{as_plain, plain_behind, plain_entered, round_behind, round_entered}
use Rattle.lk_rules.proofs.Stating.{statements_follow_their_forms}
use Rattle.lk_check_unit.proofs.Typed.{typed_both}
use Rattle.lk_check_unit.proofs.Walking.{walks_told}

-- ---- codes where parts have types

typed_rules : (rule : Option Ty → List Breach) → rule None ≡ [] → (x : Option Typing) → rule (value_in x) ≡ (if is_some x && true then rule (value_in x) else [])
typed_rules rule none None = none
typed_rules rule none (Some x) = refl

statements_typed : (env : Env) (around : Around) (s : Option Stmt) → are_typed (perhaps env (AStatement around) s) ≡ true
statements_typed env around None = refl
statements_typed env around (Some s) = refl

and_true : (a b : Bool) → b ≡ true → a ≡ (a && b)
and_true true b is = sym is
and_true false b is = refl

none_either : (b : Bool) → ◌≡◌ {A = List Breach} [] (if b then [] else [])
none_either true = refl
none_either false = refl

-- a rule that says nothing without a type is asked where there is one
pub asked_code : (old new : Checker) (e : Option Expr) (rule : Option Ty → List Breach) (asked : Asked) → rule None ≡ [] → Asks old new e rule asked →
    (env : Env) → IsPlain old env → asked.code ≡ told (if are_typed (perhaps env AnExpression e) then optional_rules env rule e else [])
asked_code old new None rule asked none asks env plain = asks.code env plain
asked_code old new (Some e) rule asked none asks env plain =
    asks.code env plain ∙
    ap told (subst (λ (here : Env). rule (value_in (expression e (as_operand env)).typing) ≡ (if is_some (expression e here).typing && true then rule (value_in (expression e (as_operand env)).typing) else [])) (as_plain old env plain)
    (typed_rules rule none (expression e (as_operand env)).typing))

-- the same where statements stand beside it
one_asked : (old new : Checker) (e : Expr) (rule : Option Ty → List Breach) (asked : Asked) → rule None ≡ [] → Asks old new (Some e) rule asked →
    (env : Env) → IsPlain old env → (test : Bool) → (has_expr_type e env && true) ≡ test → asked.code ≡ told (if test then rule (expr_type e env) else [])
one_asked old new e rule asked none asks env plain test is = asked_code old new (Some e) rule asked none asks env plain ∙ ap (λ b. told (if b then rule (expr_type e env) else [])) is

-- ---- forms

abbrev for_told : ForFirst → Option Expr → Option Expr → Stmt → StmtTeller
for_told start condition step inner =
    all_in_turn (adding (of_first start) ∷ adding (optional_adds condition) ∷ adding (optional_adds step) ∷ scoped (statement inner) ∷ [])

abbrev body_told : Stmt → StmtTeller
body_told inner here = then_told (scoped (statement inner) here) (only nothing)

abbrev behind_head : ForFirst → Option Expr → Option Expr → Env → Env
behind_head start condition step here =
    extend (extend (extend here (first_adds start here)) (added_by condition (extend here (first_adds start here))))
    (added_by step (extend (extend here (first_adds start here)) (added_by condition (extend here (first_adds start here)))))

behind_head_is : (start : ForFirst) (condition step : Option Expr) (here : Env) → extend here (head_adds start condition step here) ≡ behind_head start condition step here
behind_head_is start condition step here = by (first_adds start here)
  where
    by : (x : Additions) →
        extend here (both x (both (added_by condition (extend here x)) (added_by step (extend (extend here x) (added_by condition (extend here x)))))) ≡
        extend (extend (extend here x) (added_by condition (extend here x))) (added_by step (extend (extend here x) (added_by condition (extend here x))))
    by x =
        sym (extend_both here x (both (added_by condition (extend here x)) (added_by step (extend (extend here x) (added_by condition (extend here x)))))) ∙
        sym (extend_both (extend here x) (added_by condition (extend here x)) (added_by step (extend (extend here x) (added_by condition (extend here x)))))

abbrev in_for : (Env → Additions) → (Env → Additions) → (Env → Additions) → Stmt → StmtTeller
in_for f g h inner = all_in_turn (adding f ∷ adding g ∷ adding h ∷ scoped (statement inner) ∷ [])

first_same : (start : ForFirst) → (λ (here : Env). first_adds start here) ≡ of_first start
first_same (first.Expr None) = refl
first_same (first.Expr (Some e)) = refl
first_same (first.Declare node) = refl

optional_same : (e : Option Expr) → (λ (here : Env). added_by e here) ≡ optional_adds e
optional_same None = refl
optional_same (Some e) = refl

in_for_is : (x y z w : Additions) (cases : List Case) (defaults : List ℕ) →
    ◌≡◌ {A = StmtTold} (record { additions = both (both x (both y z)) w; cases = cases; defaults = defaults }) (record { additions = both x (both y (both z w)); cases = cases; defaults = defaults })
in_for_is x y z w cases defaults = ap (λ a. record { additions = a; cases = cases; defaults = defaults }) (both_assoc x (both y z) w ∙ ap (both x) (both_assoc y z w))

for_told_is : (start : ForFirst) (condition step : Option Expr) (inner : Stmt) (here : Env) →
    then_told (only (head_adds start condition step here)) (body_told inner (behind_head start condition step here)) ≡ for_told start condition step inner here
for_told_is start condition step inner here =
    by (behind_head start condition step here) ∙
    (ap (λ f. in_for f (added_by condition) (added_by step) inner here) (first_same start) ∙
    (ap (λ f. in_for (of_first start) f (added_by step) inner here) (optional_same condition) ∙
    ap (λ f. in_for (of_first start) (optional_adds condition) f inner here) (optional_same step)))
  where
    by : (there : Env) → then_told (only (head_adds start condition step here)) (body_told inner there) ≡
        record {
          additions = both (first_adds start here) (both (added_by condition (extend here (first_adds start here))) (both (added_by step (extend (extend here (first_adds start here)) (added_by condition (extend here (first_adds start here))))) (body_told inner there).additions));
          cases = (body_told inner there).cases;
          defaults = (body_told inner there).defaults;
        }
    by there =
        in_for_is (first_adds start here) (added_by condition (extend here (first_adds start here)))
        (added_by step (extend (extend here (first_adds start here)) (added_by condition (extend here (first_adds start here))))) (body_told inner there).additions (body_told inner there).cases (body_told inner there).defaults

abbrev turning_parts : Stmt → Env → Around → List Placed
turning_parts inner env around = at (enter env) (AStatement (in_body_of_loop around) inner) ∷ []

abbrev others : Option Stmt → StmtTeller
others other = scoped (or_nothing (option_map statement other))

abbrev after_taken : Stmt → Option Stmt → StmtTeller
after_taken taken other here = then_told (scoped (statement taken) here) (then_told (others other (extend here (scoped (statement taken) here).additions)) (only nothing))

abbrev after_taken_parts : Stmt → Option Stmt → Env → Around → List Placed
after_taken_parts taken other here next =
    perhaps (enter here) (AStatement next) (Some taken) ++
    perhaps (enter (extend here (scoped (statement taken) here).additions)) (AStatement (around_behind next (scoped (statement taken) here))) other

abbrev after_condition : Expr → Stmt → Option Stmt → StmtTeller
after_condition e taken other here = then_told (only (expr_adds e here)) (after_taken taken other (extend here (expr_adds e here)))

abbrev after_condition_parts : Expr → Stmt → Option Stmt → Env → Around → List Placed
after_condition_parts e taken other here next = (at here (AnExpression e) ∷ []) ++ after_taken_parts taken other (extend here (expr_adds e here)) next

taken_typed : (taken : Stmt) (other : Option Stmt) (here : Env) (next : Around) → are_typed (after_taken_parts taken other here next) ≡ true
taken_typed taken None here next = refl
taken_typed taken (Some other) here next = refl

all_typed : (e : Expr) (here : Env) (ps : List Placed) → are_typed ps ≡ true → (has_expr_type e here && true) ≡ are_typed (at here (AnExpression e) ∷ ps)
all_typed e here ps is = ap (λ b. has_expr_type e here && b) (sym is)

module _ (n : ℕ) where
  pub labelled : (name : List ℕ) (inner : Stmt) (c0 c1 : Checker) (b0 b1 : Body) (code : Option Code) → WalksStatement inner c0 c1 b0 b1 →
      ((around : Around) → AreLabels b0.labels around.labels → code ≡ told (label_rules around name n)) → WalksForm (StmtForm-F.Label name inner) n c0 c1 b0 b1 code
  labelled name inner c0 c1 b0 b1 code walks is at_end env around round = (walks at_end env around round, is around round.stands.labels)

  pub defaulted : (inner : Stmt) (c0 c1 : Checker) (b0 b1 b2 : Body) (code : Option Code) → WalksStatement inner c0 c1 b1 b2 →
      ((around : Around) → IsAround b0 around → code ≡ told (default_rules around)) → ((around : Around) → IsAround b0 around → IsAround b1 (behind_cases around [] true)) → b1.returned ≡ b0.returned →
      WalksForm (StmtForm-F.Default inner) n c0 c1 b0 b2 code
  defaulted inner c0 c1 b0 b1 b2 code walks is next same at_end env around round =
      let p = walks at_end env (behind_cases around [] true) (record { plain = round.plain; result = ap (option_map (meaning c0.types)) same ∙ round.result; stands = next around round.stands }) in
      (record { walks = p.walks; stands = subst (IsAround b2) (behind_default around n (statement inner env)) p.stands }, is around round.stands)

  pub cased : (e : Expr) (inner : Stmt) (c0 c1 c2 : Checker) (b0 b1 b2 : Body) (constant : Option Constant) (code : Option Code) → IsSound c0 → IsKnownResult c0 b0 → WalksOperand e c0 c1 →
      ((env : Env) → IsPlain c0 env → constant ≡ expr_constant e env) →
      ((around : Around) → IsAround b0 around → code ≡ told (if is_some constant then case_rules around constant else [])) →
      ((around : Around) → IsAround b0 around → IsAround b1 (behind_cases around (constant ∷ []) false)) → b1.returned ≡ b0.returned → WalksStatement inner c1 c2 b1 b2 →
      WalksForm (StmtForm-F.Case e inner) n c0 c2 b0 b2 code
  cased e inner c0 c1 c2 b0 b1 b2 constant code sound known expr is_constant is next same walks at_end env around round =
      let constant_is : constant ≡ expr_constant e env = is_constant env round.plain in
      let first : StmtTold = record { additions = expr_adds e env; cases = record { ordinal = n; value = expr_constant e env } ∷ []; defaults = [] } in
      let w = expr at_end env round.plain in
      let stands : IsAround b1 (around_behind around first) = subst (λ k. IsAround b1 (behind_cases around (k ∷ []) false)) constant_is (next around round.stands) in
      let p = walks at_end (extend env (expr_adds e env)) (around_behind around first)
      (round_behind at_end c0 c1 b0 b1 env around (around_behind around first) (expr_adds e env) (at env (AnExpression e) ∷ []) sound known round w same stands) in (
        passes_then at_end c0 c1 c2 b1 b2 env around first (statement inner (extend env (expr_adds e env))) (at env (AnExpression e) ∷ [])
            (at (extend env (expr_adds e env)) (AStatement (around_behind around first) inner) ∷ []) (record { walks = w; stands = stands }) p,
        is around round.stands ∙ (ap (λ k. told (if is_some k then case_rules around k else [])) constant_is ∙ ap (λ b. told (if b then case_rules around (expr_constant e env) else [])) (typed env round.plain)),
      )
    where
      some_constant : (x : Option Typing) → is_some (constant_in x) ≡ (is_some x && true)
      some_constant None = refl
      some_constant (Some x) = refl

      typed : (env : Env) → IsPlain c0 env → is_some (expr_constant e env) ≡ (has_expr_type e env && true)
      typed env plain = some_constant (expression e (as_operand env)).typing ∙ ap (λ (here : Env). is_some (expression e here).typing && true) (as_plain c0 env plain)

  pub blocked : (items : List BlockItem) (c0 c1 c2 c3 : Checker) (mark : Mark) (b0 b1 : Body) → Enters c0 c1 mark → WalksItems items c1 c2 b0 b1 → Leaves c2 c3 mark →
      WalksForm (StmtForm-F.Block items) n c0 c3 b0 b1 None
  blocked items c0 c1 c2 c3 mark b0 b1 enters walks leaves at_end env around round = (
    passes_scoped at_end c0 c1 c2 c3 mark b1 env around (items_told items) (statement_parts around env (StmtForm-F.Block items)) round.plain.is_in enters
        (walks at_end (enter env) around (round_entered c0 c1 mark b0 env around enters round)) leaves,
    ap told (none_either (are_typed (statement_parts around env (StmtForm-F.Block items)))),
  )

  pub done : (e : Option Expr) (c0 c1 : Checker) (body : Body) (asked : Asked) → Asks c0 c1 e dropped_rules asked → WalksForm (StmtForm-F.Do e) n c0 c1 body body asked.code
  done e c0 c1 body asked asks at_end env around round = (
    passes_only at_end c0 c1 body env around (added_by e env) (perhaps env AnExpression e) (asks.walks at_end env round.plain) round.stands,
    asked_code c0 c1 e dropped_rules asked refl asks env round.plain,
  )

  pub branched : (e : Expr) (taken : Stmt) (other : Option Stmt) (c0 c1 c2 c3 c4 c5 : Checker) (mark : Mark) (b0 b1 b2 : Body) (asked : Asked) →
      IsSound c1 → IsKnownResult c1 b0 → IsSound c2 → IsKnownResult c2 b0 → Enters c0 c1 mark → Asks c1 c2 (Some e) condition_rules asked →
      WalksScoped (Some taken) c2 c3 b0 b1 → b1.returned ≡ b0.returned → WalksScoped other c3 c4 b1 b2 → Leaves c4 c5 mark →
      WalksForm (StmtForm-F.If e taken other) n c0 c5 b0 b2 asked.code
  branched e taken other c0 c1 c2 c3 c4 c5 mark b0 b1 b2 asked sound1 known1 sound2 known2 enters asks first same second leaves at_end env around round = (
    scopes c0 c1 c4 c5 mark b0 b2 (after_condition e taken other) (after_condition_parts e taken other) enters
        (adds_then c1 c2 c4 b0 b2 (expr_adds e) (λ here. at here (AnExpression e) ∷ []) (after_taken taken other) (after_taken_parts taken other) sound1 known1 asks.walks
        (walkers_then c2 c3 c4 b0 b1 b2 (scoped (statement taken)) (λ here. then_told (others other here) (only nothing)) (λ here next. perhaps (enter here) (AStatement next) (Some taken)) (λ here next. perhaps (enter here) (AStatement next) other) sound2 known2 first same
        (ends c3 c4 b1 b2 (others other) (λ here next. perhaps (enter here) (AStatement next) other) second)))
        leaves at_end env around round,
    one_asked c1 c2 e condition_rules asked refl asks (enter env) (plain_entered c0 c1 mark env enters round.plain) (are_typed (after_condition_parts e taken other (enter env) around))
        (all_typed e (enter env) (after_taken_parts taken other (behind e env) around) (taken_typed taken other (behind e env) around)),
  )

  pub switched : (e : Expr) (inner : Stmt) (c0 c1 c2 c3 c4 : Checker) (mark : Mark) (b0 b1 b2 b3 : Body) (asked : Asked) (kind : Option Kind) →
      IsSound c1 → IsKnownResult c1 b0 → Enters c0 c1 mark → Asks c1 c2 (Some e) switch_rules asked → ((env : Env) → IsPlain c1 env → kind ≡ switch_kind e env) →
      ((around : Around) → IsAround b0 around → IsAround b1 (in_body_of_switch around kind)) → b1.returned ≡ b0.returned →
      WalksScoped (Some inner) c2 c3 b1 b2 → b3 ≡ record b2 { switch = b0.switch } → Leaves c3 c4 mark →
      WalksForm (StmtForm-F.Switch e inner) n c0 c4 b0 b3 asked.code
  switched e inner c0 c1 c2 c3 c4 mark b0 b1 b2 b3 asked kind sound1 known1 enters asks kinds begun same walks restored leaves at_end env around round = (
    scopes c0 c1 c3 c4 mark b0 b3 (λ here. then_told (only (expr_adds e here)) (only (scoped (statement inner) (extend here (expr_adds e here))).additions))
        (λ here next. at here (AnExpression e) ∷ at (enter (extend here (expr_adds e here))) (AStatement (in_body_of_switch next (switch_kind e here)) inner) ∷ []) enters inside leaves at_end env around round,
    asked_code c1 c2 (Some e) switch_rules asked refl asks (enter env) (plain_entered c0 c1 mark env enters round.plain),
  )
    where
      body : (at_end here : Env) (next : Around) → IsRound c1 b0 here next → Walks at_end c1 c2 here (expr_adds e here) (at here (AnExpression e) ∷ []) → IsAround b1 (in_body_of_switch next (switch_kind e here)) →
          Passes at_end c2 c3 b2 (extend here (expr_adds e here)) (in_body_of_switch next (switch_kind e here)) (scoped (statement inner) (extend here (expr_adds e here)))
          (at (enter (extend here (expr_adds e here))) (AStatement (in_body_of_switch next (switch_kind e here)) inner) ∷ [])
      body at_end here next round w stands =
          walks at_end (extend here (expr_adds e here)) (in_body_of_switch next (switch_kind e here))
          (round_behind at_end c1 c2 b0 b1 here next (in_body_of_switch next (switch_kind e here)) (expr_adds e here) (at here (AnExpression e) ∷ []) sound1 known1 round w same stands)

      back : (at_end here : Env) (next : Around) → IsAround b0 next → (told : StmtTold) (ps : List Placed) → Passes at_end c2 c3 b2 (extend here (expr_adds e here)) (in_body_of_switch next (switch_kind e here)) told ps → IsAround b3 next
      back at_end here next stands told ps passes = subst (λ b. IsAround b next) (sym restored) (record { labels = passes.stands.labels; in_loop = passes.stands.in_loop; switch = stands.switch })

      inside : Walker c1 b0 c3 b3 (λ here. then_told (only (expr_adds e here)) (only (scoped (statement inner) (extend here (expr_adds e here))).additions))
          (λ here next. at here (AnExpression e) ∷ at (enter (extend here (expr_adds e here))) (AStatement (in_body_of_switch next (switch_kind e here)) inner) ∷ [])
      inside at_end here next round = inside_by (asks.walks at_end here round.plain) (subst (λ k. IsAround b1 (in_body_of_switch next k)) (kinds here round.plain) (begun next round.stands))
        where
          inside_with : Walks at_end c1 c2 here (expr_adds e here) (at here (AnExpression e) ∷ []) →
              Passes at_end c2 c3 b2 (extend here (expr_adds e here)) (in_body_of_switch next (switch_kind e here)) (scoped (statement inner) (extend here (expr_adds e here)))
              (at (enter (extend here (expr_adds e here))) (AStatement (in_body_of_switch next (switch_kind e here)) inner) ∷ []) →
              Passes at_end c1 c3 b3 here next (then_told (only (expr_adds e here)) (only (scoped (statement inner) (extend here (expr_adds e here))).additions))
              (at here (AnExpression e) ∷ at (enter (extend here (expr_adds e here))) (AStatement (in_body_of_switch next (switch_kind e here)) inner) ∷ [])
          inside_with w p =
              passes_behind at_end c1 c2 c3 b3 here next (expr_adds e here) (only (scoped (statement inner) (extend here (expr_adds e here))).additions) (at here (AnExpression e) ∷ [])
              (at (enter (extend here (expr_adds e here))) (AStatement (in_body_of_switch next (switch_kind e here)) inner) ∷ []) w
              (passes_only at_end c2 c3 b3 (extend here (expr_adds e here)) next (scoped (statement inner) (extend here (expr_adds e here))).additions
              (at (enter (extend here (expr_adds e here))) (AStatement (in_body_of_switch next (switch_kind e here)) inner) ∷ []) p.walks
              (back at_end here next round.stands (scoped (statement inner) (extend here (expr_adds e here)))
              (at (enter (extend here (expr_adds e here))) (AStatement (in_body_of_switch next (switch_kind e here)) inner) ∷ []) p))

          inside_by : Walks at_end c1 c2 here (expr_adds e here) (at here (AnExpression e) ∷ []) → IsAround b1 (in_body_of_switch next (switch_kind e here)) →
              Passes at_end c1 c3 b3 here next (then_told (only (expr_adds e here)) (only (scoped (statement inner) (extend here (expr_adds e here))).additions))
              (at here (AnExpression e) ∷ at (enter (extend here (expr_adds e here))) (AStatement (in_body_of_switch next (switch_kind e here)) inner) ∷ [])
          inside_by w stands = inside_with w (body at_end here next round w stands)

  pub while_turned : (e : Expr) (inner : Stmt) (c0 c1 c2 c3 c4 : Checker) (mark : Mark) (b0 b1 : Body) (asked : Asked) →
      IsSound c1 → IsKnownResult c1 b0 → Enters c0 c1 mark → Asks c1 c2 (Some e) condition_rules asked → WalksTurning inner c2 c3 b0 b1 → Leaves c3 c4 mark →
      WalksForm (StmtForm-F.While e inner) n c0 c4 b0 b1 asked.code
  while_turned e inner c0 c1 c2 c3 c4 mark b0 b1 asked sound1 known1 enters asks walks leaves at_end env around round = (
    scopes c0 c1 c3 c4 mark b0 b1 (λ here. then_told (only (expr_adds e here)) (scoped (statement inner) (extend here (expr_adds e here))))
        (λ here next. (at here (AnExpression e) ∷ []) ++ turning_parts inner (extend here (expr_adds e here)) next) enters
        (adds_then c1 c2 c3 b0 b1 (expr_adds e) (λ here. at here (AnExpression e) ∷ []) (scoped (statement inner)) (turning_parts inner) sound1 known1 asks.walks walks)
        leaves at_end env around round,
    asked_code c1 c2 (Some e) condition_rules asked refl asks (enter env) (plain_entered c0 c1 mark env enters round.plain),
  )

  pub until_turned : (inner : Stmt) (e : Expr) (c0 c1 c2 c3 c4 : Checker) (mark : Mark) (b0 b1 : Body) (asked : Asked) →
      IsSound c1 → IsKnownResult c1 b0 → Enters c0 c1 mark → WalksTurning inner c1 c2 b0 b1 → b1.returned ≡ b0.returned → Asks c2 c3 (Some e) condition_rules asked → Leaves c3 c4 mark →
      WalksForm (StmtForm-F.Until inner e) n c0 c4 b0 b1 asked.code
  until_turned inner e c0 c1 c2 c3 c4 mark b0 b1 asked sound1 known1 enters walks same asks leaves at_end env around round = (
    scopes c0 c1 c3 c4 mark b0 b1 (λ here. then_told (scoped (statement inner) here) (only (expr_adds e (extend here (scoped (statement inner) here).additions))))
        (λ here next. turning_parts inner here next ++ (at (extend here (scoped (statement inner) here).additions) (AnExpression e) ∷ [])) enters
        (walkers_then c1 c2 c3 b0 b1 b1 (scoped (statement inner)) (λ here. only (expr_adds e here)) (turning_parts inner) (λ here next. at here (AnExpression e) ∷ []) sound1 known1 walks same
        (adds_only c2 c3 b1 (expr_adds e) (λ here. at here (AnExpression e) ∷ []) asks.walks))
        leaves at_end env around round,
    code (enter env) (round_entered c0 c1 mark b0 env around enters round),
  )
    where
      code : (here : Env) → IsRound c1 b0 here around →
          asked.code ≡ told (if has_expr_type e (extend here (scoped (statement inner) here).additions) && true then condition_rules (expr_type e (extend here (scoped (statement inner) here).additions)) else [])
      code here round =
          asked_code c2 c3 (Some e) condition_rules asked refl asks (extend here (scoped (statement inner) here).additions)
          (plain_behind env c1 c2 here (scoped (statement inner) here).additions (turning_parts inner here around) round.plain (walks env here around round).walks)

  pub jumped : (name : List ℕ) (checker : Checker) (body : Body) (code : Option Code) → IsSound checker → ((around : Around) → AreLabels body.labels around.labels → code ≡ told (goto_rules around name)) →
      WalksForm (StmtForm-F.Goto name) n checker checker body body code
  jumped name checker body code sound is at_end env around round =
      (passes_only at_end checker checker body env around nothing [] (no_walk at_end checker env sound round.plain.is_in) round.stands, is around round.stands.labels)

  pub continued : (checker : Checker) (body : Body) (code : Option Code) → IsSound checker → ((around : Around) → around.in_loop ≡ body.in_loop → code ≡ told (continue_rules around)) →
      WalksForm StmtForm-F.Continue n checker checker body body code
  continued checker body code sound is at_end env around round =
      (passes_only at_end checker checker body env around nothing [] (no_walk at_end checker env sound round.plain.is_in) round.stands, is around round.stands.in_loop)

  pub broken : (checker : Checker) (body : Body) (has : Bool) (code : Option Code) → IsSound checker → has ≡ is_some body.switch →
      ((around : Around) → around.in_loop ≡ body.in_loop → in_switch around ≡ has → code ≡ told (break_rules around)) → WalksForm StmtForm-F.Break n checker checker body body code
  broken checker body has code sound has_is is at_end env around round = (
    passes_only at_end checker checker body env around nothing [] (no_walk at_end checker env sound round.plain.is_in) round.stands,
    is around round.stands.in_loop (ap is_some round.stands.switch ∙ (by body.switch ∙ sym has_is)),
  )
    where
      by : (s : Option Switch) → is_some (option_map switch_of s) ≡ is_some s
      by None = refl
      by (Some s) = refl

  pub returns : (e : Option Expr) (c0 c1 : Checker) (body : Body) (code : Option Code) → WalksReturn e c0 c1 body.returned code → WalksForm (StmtForm-F.Return e) n c0 c1 body body code
  returns e c0 c1 body code walks at_end env around round = (
    passes_only at_end c0 c1 body env around (added_by e env) (statement_parts around env (StmtForm-F.Return e)) (walks.walks at_end env round.plain round.result) round.stands,
    walks.code env round.plain round.result,
  )

  pub for_turned : (start : ForFirst) (condition step : Option Expr) (inner : Stmt) (c0 c1 c2 c3 c4 : Checker) (mark : Mark) (b0 b1 : Body) (code : Option Code) →
      IsSound c1 → IsKnownResult c1 b0 → Enters c0 c1 mark → WalksHead start condition step c1 c2 code → WalksTurning inner c2 c3 b0 b1 → Leaves c3 c4 mark →
      WalksForm (StmtForm-F.For start condition step inner) n c0 c4 b0 b1 code
  for_turned start condition step inner c0 c1 c2 c3 c4 mark b0 b1 code sound1 known1 enters head walks leaves at_end env around round = (
    scopes c0 c1 c3 c4 mark b0 b1 (for_told start condition step inner) (λ here next. head_parts start condition step here ++ turning_parts inner (behind_head start condition step here) next) enters inside leaves
        at_end env around round,
    head.code (enter env) (plain_entered c0 c1 mark env enters round.plain) ∙
        ap (λ b. told (if b then for_rules (enter env) start condition step else []))
        (and_true (are_typed (head_parts start condition step (enter env))) true refl ∙
        sym (typed_both (head_parts start condition step (enter env)) (turning_parts inner (behind_head start condition step (enter env)) around))),
  )
    where
      head_and_body : Walker c1 b0 c3 b1 (λ here. then_told (only (head_adds start condition step here)) (body_told inner (extend here (head_adds start condition step here))))
          (λ here next. head_parts start condition step here ++ turning_parts inner (extend here (head_adds start condition step here)) next)
      head_and_body =
          adds_then c1 c2 c3 b0 b1 (head_adds start condition step) (head_parts start condition step) (body_told inner) (turning_parts inner) sound1 known1 head.walks
          (ends c2 c3 b0 b1 (scoped (statement inner)) (turning_parts inner) walks)

      inside : Walker c1 b0 c3 b1 (for_told start condition step inner) (λ here next. head_parts start condition step here ++ turning_parts inner (behind_head start condition step here) next)
      inside at_end here next round =
          subst (λ t. Passes at_end c1 c3 b1 here next t (head_parts start condition step here ++ turning_parts inner (behind_head start condition step here) next)) (for_told_is start condition step inner here)
          (subst (λ (e : Env). Passes at_end c1 c3 b1 here next (then_told (only (head_adds start condition step here)) (body_told inner e)) (head_parts start condition step here ++ turning_parts inner e next))
          (behind_head_is start condition step here) (head_and_body at_end here next round))

-- the body of a loop, and a statement that is absent
pub turned : (s : Stmt) (c0 c1 : Checker) (b0 b1 : Body) → WalksScoped (Some s) c0 c1 (record b0 { in_loop = true }) b1 → WalksTurning s c0 c1 b0 (record b1 { in_loop = b0.in_loop })
turned s c0 c1 b0 b1 walks at_end env around round =
    back (walks at_end env (in_body_of_loop around)
    (record { plain = round.plain; result = round.result; stands = record { labels = round.stands.labels; in_loop = refl; switch = round.stands.switch } }))
  where
    back : Passes at_end c0 c1 b1 env (in_body_of_loop around) (scoped (statement s) env) (at (enter env) (AStatement (in_body_of_loop around) s) ∷ []) →
        Passes at_end c0 c1 (record b1 { in_loop = b0.in_loop }) env around (scoped (statement s) env) (at (enter env) (AStatement (in_body_of_loop around) s) ∷ [])
    back p = record { walks = p.walks; stands = record { labels = p.stands.labels; in_loop = round.stands.in_loop; switch = p.stands.switch } }

pub absent : (c : Checker) (b : Body) → IsSound c → WalksScoped None c c b b
absent c b sound at_end env around round = passes_only at_end c c b env around nothing [] (no_walk at_end c env sound round.plain.is_in) round.stands

pub in_scope : (s : Stmt) (c0 c1 c2 c3 : Checker) (mark : Mark) (b0 b1 : Body) → Enters c0 c1 mark → WalksStatement s c1 c2 b0 b1 → Leaves c2 c3 mark → WalksScoped (Some s) c0 c3 b0 b1
in_scope s c0 c1 c2 c3 mark b0 b1 enters walks leaves = scopes c0 c1 c2 c3 mark b0 b1 (statement s) (λ here next. at here (AStatement next s) ∷ []) enters walks leaves

-- a form by what the code matched
pub of_form_is : (f g : StmtForm-F BlockItem StmtForm Stmt) (n : ℕ) (c0 c1 : Checker) (b0 b1 : Body) (r : Result (Option Code) NoMemory) → g ≡ f →
    IfOk r (λ code. (n : ℕ) → WalksForm f n c0 c1 b0 b1 code) → IfOk r (WalksForm g n c0 c1 b0 b1)
of_form_is f g n c0 c1 b0 b1 r is walks = IfOk-weaker r _ _ (λ code each. subst (λ h. WalksForm h n c0 c1 b0 b1 code) (sym is) (each n)) walks

-- ---- statements

pub stated : (s : Stmt) (c0 c1 c2 : Checker) (b0 b1 : Body) (code : Option Code) → WalksForm (out-StmtForm s.form) s.ordinal c0 c1 b0 b1 code →
    Tells c1 c2 (at_stmt s) (option_map (λ code. record { code = code; name = name_told (out-StmtForm s.form) }) code) → WalksStatement s c0 c2 b0 b1
stated s c0 c1 c2 b0 b1 code form tells at_end env around round =
    let f = out-StmtForm s.form in
    let p = form at_end env around round in
    let as_told : told_of f s.ordinal env ≡ statement s env = sym (ap (λ (t : StmtTeller). t env) (statements_follow_their_forms s f refl)) in
    let bs = form_breaches around env s.ordinal f in
    subst (λ t. Passes at_end c0 c2 b1 env around t (at env (AStatement around s) ∷ [])) as_told
    (record {
      walks =
          walks_told at_end c0 c1 c2 env env (told_of f s.ordinal env).additions (AStatement around s) refl refl p.0.walks tells.types tells.names tells.outside tells.records
          (subst (λ k. KeepsCodes (kept_in c1) (mark_of (AStatement around s)) bs k) (sym tells.kept) (codes_told (kept_in c1) (mark_of (AStatement around s)) (name_told f) bs code (breaches_tell around env s.ordinal f) p.1));
      stands = p.0.stands;
    })
