-- What a defined step changes is right, where what the state stores is: each action's lemma together.
use Rattle.std.proofs.Common.{ℕ, true, false, List}
use Rattle.lk_cells.specs.declared.state.State.{State}
use Rattle.lk_cells.specs.declared.state.Thread.{Thread}
use Rattle.lk_change.specs.declared.change.Change.{Change}
use Rattle.lk_facts.specs.Labels.{LabelTable}
use Rattle.lk_facts.specs.declared.action.Action.{Action}
use Rattle.lk_facts.specs.declared.action.Action.TheVariants as action
use Rattle.lk_facts.specs.declared.edge.Edge.{Edge}
use Rattle.lk_facts.specs.declared.program.Program.{Program}
use Rattle.lk_right.proofs.Accessing.{read_acts, write_acts, store_acts}
use Rattle.lk_right.proofs.Allocating.{allocate_acts}
use Rattle.lk_right.proofs.Calling.{call_right, pointer_call_right, create_right}
use Rattle.lk_right.proofs.Filling.{scan_acts, fill_acts}
use Rattle.lk_right.proofs.Giving.{value_right, null_right, self_right, slot_read_right, slot_write_right, unary_right, compute_right, convert_right, branch_right, switch_right, skip_right, join_right, detach_right, exit_thread_right, exit_process_right, lock_right, unlock_right, release_right, retake_right, init_right, destroy_right, signal_right, free_right, binary_right}
use Rattle.lk_right.proofs.Indexing.{member_right, element_right, index_right, binary_moves}
use Rattle.lk_right.proofs.Returning.{return_right}
use Rattle.lk_right.proofs.Rooted.{func_right, root_right, text_right}
use Rattle.lk_right.proofs.Doing.{Acts}
use Rattle.lk_right.specs.Changes.{IsChangeRight}
use Rattle.lk_right.specs.Contexts.{Contexts}
use Rattle.lk_right.specs.Laws.{ChangesAreRight}

module _ (program : Program) (labels : LabelTable) (es : List Edge) (contexts : Contexts) (s : State) (t w f : ℕ) (thread : Thread) (cs : List (List ℕ)) (c : List ℕ) (ch : Change) where
  -- what the step of each action changes is right
  pub by_action : (act : Action) → Acts program labels es contexts s t w f thread cs c act ch → IsChangeRight program labels es contexts t thread f cs c ch
  by_action (action.Value number ty) acts = value_right program labels es contexts s t w f thread cs c ch number ty acts
  by_action (action.Null ty) acts = null_right program labels es contexts s t w f thread cs c ch ty acts
  by_action (action.Func g) acts = func_right program labels es contexts s t w f thread cs c ch g acts
  by_action action.SelfId acts = self_right program labels es contexts s t w f thread cs c ch acts
  by_action (action.Root r) acts = root_right program labels es contexts s t w f thread cs c ch r acts
  by_action (action.Text r) acts = text_right program labels es contexts s t w f thread cs c ch r acts
  by_action (action.Field a k) acts = member_right program labels es contexts s t w f thread cs c ch a k acts
  by_action (action.Index a b true) acts = element_right program labels es contexts s t w f thread cs c ch a b acts
  by_action (action.Index a b false) acts = index_right program labels es contexts s t w f thread cs c ch a b acts
  by_action (action.Read a raw) acts = read_acts program labels es contexts s t w f thread cs c ch a raw acts
  by_action (action.Write a b raw) acts = write_acts program labels es contexts s t w f thread cs c ch a b raw acts
  by_action (action.SlotRead k) acts = slot_read_right program labels es contexts s t w f thread cs c ch k acts
  by_action (action.SlotWrite k a) acts = slot_write_right program labels es contexts s t w f thread cs c ch k a acts
  by_action (action.Unary o a) acts = unary_right program labels es contexts s t w f thread cs c ch o a acts
  by_action (action.Binary o a b) acts = binary_right program labels es contexts s t w f thread cs c ch o a b acts (binary_moves program labels es contexts s t w f thread cs c ch o a b acts)
  by_action (action.Compute args ty equal) acts = compute_right program labels es contexts s t w f thread cs c ch args ty equal acts
  by_action (action.Convert a ty) acts = convert_right program labels es contexts s t w f thread cs c ch a ty acts
  by_action (action.Branch a) acts = branch_right program labels es contexts s t w f thread cs c ch a acts
  by_action (action.Switch a cases) acts = switch_right program labels es contexts s t w f thread cs c ch a cases acts
  by_action action.Skip acts = skip_right program labels es contexts s t w f thread cs c ch acts
  by_action (action.Call g args) acts = call_right program labels es contexts s t w f thread cs c ch g args acts
  by_action (action.PointerCall a args) acts = pointer_call_right program labels es contexts s t w f thread cs c ch a args acts
  by_action (action.Return a) acts = return_right program labels es contexts s t w f thread cs c ch a acts
  by_action (action.Create g a) acts = create_right program labels es contexts s t w f thread cs c ch g a acts
  by_action (action.StoreId a) acts = store_acts program labels es contexts s t w f thread cs c ch a acts
  by_action (action.Join a) acts = join_right program labels es contexts s t w f thread cs c ch a acts
  by_action (action.Detach a) acts = detach_right program labels es contexts s t w f thread cs c ch a acts
  by_action action.ExitThread acts = exit_thread_right program labels es contexts s t w f thread cs c ch acts
  by_action action.ExitProcess acts = exit_process_right program labels es contexts s t w f thread cs c ch acts
  by_action (action.Lock a) acts = lock_right program labels es contexts s t w f thread cs c ch a acts
  by_action (action.Unlock a) acts = unlock_right program labels es contexts s t w f thread cs c ch a acts
  by_action (action.Release a b) acts = release_right program labels es contexts s t w f thread cs c ch a b acts
  by_action (action.Retake a) acts = retake_right program labels es contexts s t w f thread cs c ch a acts
  by_action (action.Init a) acts = init_right program labels es contexts s t w f thread cs c ch a acts
  by_action (action.Destroy a) acts = destroy_right program labels es contexts s t w f thread cs c ch a acts
  by_action (action.Signal a) acts = signal_right program labels es contexts s t w f thread cs c ch a acts
  by_action (action.Allocate ty count clear r) acts = allocate_acts program labels es contexts s t w f thread cs c ch ty count clear r acts
  by_action (action.Free a) acts = free_right program labels es contexts s t w f thread cs c ch a acts
  by_action (action.Scan a) acts = scan_acts program labels es contexts s t w f thread cs c ch a acts
  by_action (action.Fill a place named) acts = fill_acts program labels es contexts s t w f thread cs c ch a place named acts

-- what a step that is defined changes is right
pub changes_are_right : ChangesAreRight
changes_are_right program labels es ok contexts s sound t w f thread cs c act ch performs defined does =
    by_action program labels es contexts s t w f thread cs c ch act (record { ok = ok; sound = sound; performs = performs; defined = defined; does = does })
