-- The steps of statements, and where control goes on after them (C99 6.8).
use Rattle.std.specs.Prelude.{ℕ, ℤ, ◌++◌, List, [], ◌∷◌, length, map, Option, None, Some, nat_eq, if◌then◌else◌}
use Rattle.lk_base.specs.declared.cell.CellStep.{CellStep}
use Rattle.lk_base.specs.declared.spot.Spot.{Spot}
use Rattle.lk_facts.specs.declared.action.Action.TheVariants as does
use Rattle.lk_facts.specs.declared.place.Place.{Place}
use Rattle.lk_lower_expr.specs.Expressions.{part}
use Rattle.lk_lower_expr.specs.Initialisers as initialisers
use Rattle.lk_lower_expr.specs.Names.{Names}
use Rattle.lk_lower_expr.specs.Parts.{Part, goes, step}
use Rattle.lk_lower_expr.specs.Walk.{Walk, nothing, own, ◌then◌}
use Rattle.lk_lower_expr.specs.declared.goals.Goals.{Goals}
use Rattle.lk_lower_expr.specs.declared.goals.Labelled.{Labelled}
use Rattle.lk_lower_expr.specs.declared.step.Step.{Step}
use Rattle.lk_typed.specs.declared.expression.Storage.TheVariants as storage
use Rattle.lk_typed.specs.declared.expression.TypedExpr.{TypedExpr}
use Rattle.lk_typed.specs.declared.initialiser.AbsentCells.{AbsentCells}
use Rattle.lk_typed.specs.declared.initialiser.LocalPart.{LocalPart}
use Rattle.lk_typed.specs.declared.initialiser.LocalValue.{LocalValue}
use Rattle.lk_typed.specs.declared.initialiser.LocalValue.TheVariants as value
use Rattle.lk_typed.specs.declared.statement.LocalInit.{LocalInit}
use Rattle.lk_typed.specs.declared.statement.SwitchCase.{SwitchCase}
use Rattle.lk_typed.specs.declared.statement.TypedFirst.{TypedFirst}
use Rattle.lk_typed.specs.declared.statement.TypedFirst.TheVariants as for_first
use Rattle.lk_typed.specs.declared.statement.TypedItem.TheFolds.{fold-TypedStmt, fold-TypedStmtForm, fold-TypedItem}
use Rattle.lk_typed.specs.declared.statement.TypedItem.TheOpen.{TypedItem-F, TypedStmtForm-F, TypedStmt-F}
use Rattle.lk_typed.specs.declared.statement.TypedItem.{TypedItem}
use Rattle.lk_typed.specs.declared.statement.TypedStmt.{TypedStmt}
use Rattle.lk_typed.specs.declared.statement.TypedStmtForm.{TypedStmtForm}

-- the same goals, but that behind the statement
abbrev pub to : ℕ → Goals → Goals
to next go = record { next = next; breaks = go.breaks; continues = go.continues; exit = go.exit }

-- a statement: the point at which it begins, its steps, and where each `case` and `default` of the switch
-- around it begins, the last of them first
pub record Flow : Type 0 where
  pub first : Goals → ℕ
  pub all : Goals → Walk
  pub labelled : Goals → List Labelled

-- a statement without steps, at which control goes on at once
abbrev pub leads : (Goals → ℕ) → Flow
leads goal = record { first = goal; all = λ go. nothing; labelled = λ go. [] }

-- statements one after the other
abbrev pub first_in : List Flow → Goals → ℕ
first_in [] go = go.next
first_in (a ∷ others) go = a.first (to (first_in others go) go)

abbrev pub all_in : List Flow → Goals → Walk
all_in [] go = nothing
all_in (a ∷ others) go = a.all (to (first_in others go) go) then all_in others go

abbrev pub labelled_in : List Flow → Goals → List Labelled
labelled_in [] go = []
labelled_in (a ∷ others) go = labelled_in others go ++ a.labelled (to (first_in others go) go)

abbrev pub in_turn : List Flow → Flow
in_turn flows = record { first = first_in flows; all = all_in flows; labelled = labelled_in flows }

-- an expression whose value nothing takes
abbrev pub computed : Part → Flow
computed a = record { first = λ go. a.first; all = λ go. goes a go.next; labelled = λ go. [] }

-- where the labelled statement of this node begins
abbrev pub begins_at : ℕ → List Labelled → ℕ → ℕ
begins_at node [] other = other
begins_at node (one ∷ others) other = if nat_eq one.node node then one.first else begins_at node others other

-- a step that goes on, and one that goes on at the first of two points where the value is neither zero
-- nor null, else at the second
abbrev pub skip : Spot → ℕ → Step
skip spot on = step does.Skip None spot on

abbrev pub branch : Spot → ℕ → (yes_ no_ : ℕ) → Step
branch spot a yes_ no_ = record { does = does.Branch a; gives = None; next = yes_ ∷ no_ ∷ []; spot = spot }

-- inside a `switch`, `break` goes past it
abbrev pub inside_switch : Goals → Goals
inside_switch go = record { next = go.next; breaks = go.next; continues = go.continues; exit = go.exit }

-- a case's value
abbrev pub case_value : SwitchCase → ℤ
case_value one = one.value

-- where `switch` goes on where no case has its value
abbrev pub default_of : Option ℕ → List Labelled → ℕ → ℕ
default_of None labelled past = past
default_of (Some o) labelled past = begins_at o labelled past

-- to each case, in the order of the text, and last to the default or past the statement (C99 6.8.4.2)
abbrev pub switch_step : Spot → ℕ → List SwitchCase → Option ℕ → List Labelled → (past : ℕ) → Step
switch_step spot value cases default labelled past = record {
  does = does.Switch value (map case_value cases);
  gives = None;
  spot = spot;
  next = map (λ one. begins_at one.ordinal labelled past) cases ++ (default_of default labelled past ∷ []);
}

-- inside a loop: behind its body control goes on at its end, and `continue` goes to its
-- next turn (C99 6.8.5, 6.8.6.2)
abbrev pub inside_loop : (turn : ℕ) → Goals → Goals
inside_loop turn go = record { next = turn; breaks = go.next; continues = turn; exit = go.exit }

-- the second statement of an `if`, where there is one
abbrev pub otherwise : Option Flow → Flow
otherwise None = leads (λ go. go.next)
otherwise (Some b) = b

-- `case value: statement` and `default: statement` have no steps
abbrev pub case_flow : (o : ℕ) → Flow → Flow
case_flow o a =
    record { first = a.first; all = a.all; labelled = λ go. a.labelled go ++ (record { node = o; first = a.first go } ∷ []) }

-- the steps of a `for` of its own: without a condition it goes on to its body alone
abbrev pub for_steps : Spot → Option Part → (body past : ℕ) → List Step
for_steps spot None body past = skip spot body ∷ []
for_steps spot (Some c) body past = skip spot c.first ∷ branch spot c.value body past ∷ []

-- where a third part begins, and the steps of a part that may be missing
abbrev pub first_or : Option Part → ℕ → ℕ
first_or None other = other
first_or (Some a) other = a.first

abbrev pub goes_of : Option Part → ℕ → Walk
goes_of None on = nothing
goes_of (Some a) on = goes a on

module _ (names : Names) where
  abbrev at : ℕ → ℕ → ℕ
  at = names.at

  -- ---- declarations of locals with a value (C99 6.7.8)

  -- a slot is written at its declared name
  abbrev pub slot_flow : (local slot : ℕ) → Part → Flow
  slot_flow local slot a =
      let node = names.declared local in record {
        first = λ go. a.first;
        labelled = λ go. [];
        all = λ go. own node.ordinal (step (does.SlotWrite slot a.value) None node.spot go.next ∷ [])
            then goes a (at node.ordinal 0);
      }

  -- a slot, whose one part is the whole of it: an expression
  abbrev pub value_flow : (local slot : ℕ) → LocalValue → Flow
  value_flow local slot (value.Expr e) = slot_flow local slot (part names e)
  value_flow local slot (value.Text spot text bytes) = leads (λ go. go.next)
  value_flow local slot value.Ready = leads (λ go. go.next)

  abbrev pub whole_flow : (local slot : ℕ) → List LocalPart → Flow
  whole_flow local slot [] = leads (λ go. go.next)
  whole_flow local slot (one ∷ others) = value_flow local slot one.value

  -- ---- statements

  -- `label: statement` begins with a Skip, to which `goto` leads (C99 6.8.1)
  abbrev pub label_flow : (o : ℕ) → Spot → Flow → Flow
  label_flow o spot a = record {
    first = λ go. at o 0;
    labelled = a.labelled;
    all = λ go. own o (skip spot (a.first go) ∷ []) then a.all go;
  }

  -- `if (condition) statement`, and with `else` (C99 6.8.4.1)
  abbrev pub if_flow : (o : ℕ) → Spot → Part → Flow → Flow → Flow
  if_flow o spot c a b = record {
    first = λ go. c.first;
    labelled = λ go. b.labelled go ++ a.labelled go;
    all = λ go. own o (branch spot c.value (a.first go) (b.first go) ∷ []) then goes c (at o 0)
        then a.all go then b.all go;
  }

  -- `switch (value) statement` (C99 6.8.4.2)
  abbrev pub switch_flow : (o : ℕ) → Spot → Part → List SwitchCase → Option ℕ → Flow → Flow
  switch_flow o spot v cases default a = record {
    first = λ go. v.first;
    labelled = λ go. [];
    all = λ go.
        own o (switch_step spot v.value cases default (a.labelled (inside_switch go)) go.next ∷ []) then
        goes v (at o 0) then a.all (inside_switch go);
  }

  -- `while (condition) statement` (C99 6.8.5.1)
  abbrev pub while_flow : (o : ℕ) → Spot → Part → Flow → Flow
  while_flow o spot c a = record {
    first = λ go. at o 0;
    labelled = λ go. a.labelled (inside_loop (at o 0) go);
    all = λ go.
        own o (skip spot c.first ∷ branch spot c.value (a.first (inside_loop (at o 0) go)) go.next ∷ []) then
        goes c (at o 1) then a.all (inside_loop (at o 0) go);
  }

  -- `do statement while (condition);`: `continue` goes to the condition
  abbrev pub until_flow : (o : ℕ) → Spot → Flow → Part → Flow
  until_flow o spot a c = record {
    first = λ go. at o 0;
    labelled = λ go. a.labelled (inside_loop c.first go);
    all = λ go.
        own o (skip spot (a.first (inside_loop c.first go)) ∷ branch spot c.value (at o 0) go.next ∷ []) then
        a.all (inside_loop c.first go) then goes c (at o 1);
  }

  -- `for (first; condition; step) statement`: each turn begins at the Skip behind the first part,
  -- and `continue` goes to the step
  abbrev pub for_flow : (o : ℕ) → Spot → Flow → Option Part → Option Part → Flow → Flow
  for_flow o spot f c s a = record {
    first = λ go. f.first (to (at o 0) go);
    labelled = λ go. a.labelled (inside_loop (first_or s (at o 0)) go);
    all = λ go.
        own o (for_steps spot c (a.first (inside_loop (first_or s (at o 0)) go)) go.next) then
        f.all (to (at o 0) go) then goes_of c (at o 1) then goes_of s (at o 0)
        then a.all (inside_loop (first_or s (at o 0)) go);
  }

  -- `goto label;` leads to the Skip of the labelled statement (C99 6.8.6.1)
  abbrev pub goto_flow : (label : ℕ) → Flow
  goto_flow label = leads (λ go. at label 0)

  -- `return value;` leads to the exit of the function (C99 6.8.6.4)
  abbrev pub return_flow : (o : ℕ) → Spot → Option Part → Flow
  return_flow o spot None = record {
    first = λ go. at o 0;
    labelled = λ go. [];
    all = λ go. own o (step (does.Return None) None spot go.exit ∷ []);
  }
  return_flow o spot (Some a) = record {
    first = λ go. a.first;
    labelled = λ go. [];
    all = λ go. own o (step (does.Return (Some a.value)) None spot go.exit ∷ []) then goes a (at o 0);
  }

  abbrev pub expression_flow : Option TypedExpr → Flow
  expression_flow None = leads (λ go. go.next)
  expression_flow (Some e) = computed (part names e)

  abbrev pub part_of : Option TypedExpr → Option Part
  part_of None = None
  part_of (Some e) = Some (part names e)

-- `place` is the place of a cell of a local, by the steps to it
module _ (names : Names) (place : ℕ → List CellStep → Place) where
  -- ---- locals that are objects

  -- an object: the parts that its initialiser names, and then the cells that it doesn't name
  abbrev pub object_flow : ℕ → List LocalPart → List AbsentCells → Flow
  object_flow local named absent =
      let node = names.declared local in
      let root = names.object (storage.Local local) in
      let deeds = initialisers.parts_deeds names node root 0 named in record {
        first = λ go. names.at node.ordinal 0;
        labelled = λ go. [];
        all = λ go.
            own node.ordinal (initialisers.numbered (names.at node.ordinal) node.spot 0
            (deeds ++ initialisers.fills_deeds names node (place local) root (length deeds) absent)
            go.next) then
            initialisers.values_walk names node root 0 named;
      }

  abbrev pub init_by : Option ℕ → LocalInit → Flow
  init_by None one = object_flow one.local one.named one.absent
  init_by (Some slot) one = whole_flow names one.local slot one.named

  abbrev pub init_flow : LocalInit → Flow
  init_flow one = init_by (names.slot one.local) one

  abbrev pub inits_flow : List LocalInit → Flow
  inits_flow list = in_turn (map init_flow list)

  -- ---- each form by its rule

  abbrev pub first_flow : TypedFirst → Flow
  first_flow (for_first.Expr e) = expression_flow names e
  first_flow (for_first.Declare list) = inits_flow list

  abbrev FormFlow : Type 0
  FormFlow = (o : ℕ) → Spot → Flow

  abbrev pub of_item : TypedItem-F Flow FormFlow Flow → Flow
  of_item (TypedItem-F.Declare list) = inits_flow list
  of_item (TypedItem-F.Stmt a) = a

  abbrev pub of_form : TypedStmtForm-F Flow FormFlow Flow → FormFlow
  of_form (TypedStmtForm-F.Label a) o spot = label_flow names o spot a
  of_form (TypedStmtForm-F.Case a) o spot = case_flow o a
  of_form (TypedStmtForm-F.Default a) o spot = case_flow o a
  of_form (TypedStmtForm-F.Block items) o spot = in_turn items
  of_form (TypedStmtForm-F.Do e) o spot = expression_flow names e
  of_form (TypedStmtForm-F.If c a b) o spot = if_flow names o spot (part names c) a (otherwise b)
  of_form (TypedStmtForm-F.Switch v cases default a) o spot =
      switch_flow names o spot (part names v) cases default a
  of_form (TypedStmtForm-F.While c a) o spot = while_flow names o spot (part names c) a
  of_form (TypedStmtForm-F.Until a c) o spot = until_flow names o spot a (part names c)
  of_form (TypedStmtForm-F.For f c s a) o spot =
      for_flow names o spot (first_flow f) (part_of names c) (part_of names s) a
  of_form (TypedStmtForm-F.Goto label) o spot = goto_flow names label
  of_form TypedStmtForm-F.Continue o spot = leads (λ go. go.continues)
  of_form TypedStmtForm-F.Break o spot = leads (λ go. go.breaks)
  of_form (TypedStmtForm-F.Return e) o spot = return_flow names o spot (part_of names e)

  abbrev pub of_stmt : TypedStmt-F Flow FormFlow Flow → Flow
  of_stmt s = s.form s.ordinal s.spot

  unfoldable pub flow : TypedStmt → Flow
  flow = fold-TypedStmt Flow FormFlow Flow of_item of_form of_stmt

  -- the same of a form, by its node, and of an item of a block
  unfoldable pub form_flow : TypedStmtForm → FormFlow
  form_flow = fold-TypedStmtForm Flow FormFlow Flow of_item of_form of_stmt

  unfoldable pub item_flow : TypedItem → Flow
  item_flow = fold-TypedItem Flow FormFlow Flow of_item of_form of_stmt

  -- ---- the definition of a function (C99 6.9.1): it begins with its entry, and ends with the Return of its body's end and with its exit, at which no thread ever stands

  abbrev pub body_goals : (o : ℕ) → Goals
  body_goals o =
      record { next = names.at o 1; breaks = names.at o 1; continues = names.at o 1; exit = names.at o 2 }

  abbrev pub body_walk : (o : ℕ) → Spot → TypedStmt → Walk
  body_walk o spot block =
      own o (
      skip spot ((flow block).first (body_goals o)) ∷
      step (does.Return None) None spot (names.at o 2) ∷
      record { does = does.Skip; gives = None; next = []; spot = spot } ∷ []) then
      (flow block).all (body_goals o)
