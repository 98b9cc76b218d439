use Rattle.std.proofs.Common.{◌++◌, [], ◌∷◌, refl, rules, sym}
use Rattle.std.specs.Prelude.{map}
use Rattle.lk_lower_expr.specs.Owned.{all_of, hidden, hidden_of, owned}
use Rattle.lk_lower_parts.proofs.Adding.{loop_more, no_more, then_more}
use Rattle.lk_lower_parts.proofs.OwnedCalls as calls
use Rattle.lk_lower_parts.proofs.OwnedCalls.{as_call}
use Rattle.lk_lower_parts.proofs.OwnedForms.{as_form, of_Object, of_Text, of_Member, of_Arrow, of_Index, of_Indirection, of_Paren, of_Number, of_Function, of_Address, of_Unary, of_Binary, of_And, of_Or, of_Choice, of_Comma, of_Assign, of_Compound, of_Step, of_Call, of_Library, of_Extern, of_Size, of_Load, of_Decay, of_Convert, of_Discard, of_Null, of_named, of_pointer}
use Rattle.lk_lower_parts.specs.Found.{all_found, form_in, node_of}
use Rattle.lk_typed.specs.declared.expression.TypedForm.TheVariants as tree
use Rattle.lk_typed.specs.declared.library.LibraryCall.TheVariants as library
use Rattle.lk_lower_parts.proofs.owned.Finding.+finds.Goals as goal

pub push-returns-in-Object : goal.push-returns-in-Object
push-returns-in-Object t c = rw (as_form (form_in c.args.self.now) c.args.e.now (tree.Object c.in-Object.field-0) _ c.in-Object.is (of_Object (form_in c.args.self.now) c.in-Object.field-0)) (no_more c.args.out.now.items)

pub push-returns-in-Text : goal.push-returns-in-Text
push-returns-in-Text t c = rw (as_form (form_in c.args.self.now) c.args.e.now (tree.Text c.in-Text.bytes) _ c.in-Text.is (of_Text (form_in c.args.self.now) c.in-Text.bytes)) (search rules)

pub push-returns-in-Member : goal.push-returns-in-Member
push-returns-in-Member t c = rw (as_form (form_in c.args.self.now) c.args.e.now (tree.Member c.in-Member.a c.in-Member.field-1) _ c.in-Member.is (of_Member (form_in c.args.self.now) c.in-Member.a c.in-Member.field-1)) (search rules)

pub push-returns-in-Arrow : goal.push-returns-in-Arrow
push-returns-in-Arrow t c = rw (as_form (form_in c.args.self.now) c.args.e.now (tree.Arrow c.in-Arrow.a c.in-Arrow.field-1) _ c.in-Arrow.is (of_Arrow (form_in c.args.self.now) c.in-Arrow.a c.in-Arrow.field-1)) (search rules)

pub push-returns-in-Index : goal.push-returns-in-Index
push-returns-in-Index t c = rw (as_form (form_in c.args.self.now) c.args.e.now (tree.Index c.in-Index.a c.in-Index.b) _ c.in-Index.is (of_Index (form_in c.args.self.now) c.in-Index.a c.in-Index.b)) (search rules)

pub push-returns-in-Indirection : goal.push-returns-in-Indirection
push-returns-in-Indirection t c = rw (as_form (form_in c.args.self.now) c.args.e.now (tree.Indirection c.in-Indirection.a) _ c.in-Indirection.is (of_Indirection (form_in c.args.self.now) c.in-Indirection.a)) (search rules)

pub push-returns-in-Paren : goal.push-returns-in-Paren
push-returns-in-Paren t c = rw (as_form (form_in c.args.self.now) c.args.e.now (tree.Paren c.in-Paren.a) _ c.in-Paren.is (of_Paren (form_in c.args.self.now) c.in-Paren.a)) (search rules)

pub push-returns-in-Number : goal.push-returns-in-Number
push-returns-in-Number t c = rw (as_form (form_in c.args.self.now) c.args.e.now (tree.Number c.in-Number.field-0) _ c.in-Number.is (of_Number (form_in c.args.self.now) c.in-Number.field-0)) (no_more c.args.out.now.items)

pub push-returns-in-Function : goal.push-returns-in-Function
push-returns-in-Function t c = rw (as_form (form_in c.args.self.now) c.args.e.now (tree.Function c.in-Function.field-0) _ c.in-Function.is (of_Function (form_in c.args.self.now) c.in-Function.field-0)) (no_more c.args.out.now.items)

pub push-returns-in-Address : goal.push-returns-in-Address
push-returns-in-Address t c = rw (as_form (form_in c.args.self.now) c.args.e.now (tree.Address c.in-Address.a) _ c.in-Address.is (of_Address (form_in c.args.self.now) c.in-Address.a)) (search rules)

pub push-returns-in-Unary : goal.push-returns-in-Unary
push-returns-in-Unary t c = rw (as_form (form_in c.args.self.now) c.args.e.now (tree.Unary c.in-Unary.field-0 c.in-Unary.a) _ c.in-Unary.is (of_Unary (form_in c.args.self.now) c.in-Unary.field-0 c.in-Unary.a)) (search rules)

pub push-returns-in-Binary : goal.push-returns-in-Binary
push-returns-in-Binary t c = rw (as_form (form_in c.args.self.now) c.args.e.now (tree.Binary c.in-Binary.field-0 c.in-Binary.a c.in-Binary.b) _ c.in-Binary.is (of_Binary (form_in c.args.self.now) c.in-Binary.field-0 c.in-Binary.a c.in-Binary.b)) (search rules)

pub push-returns-in-And : goal.push-returns-in-And
push-returns-in-And t c = rw (as_form (form_in c.args.self.now) c.args.e.now (tree.And c.in-And.a c.in-And.b) _ c.in-And.is (of_And (form_in c.args.self.now) c.in-And.a c.in-And.b)) (search rules)

pub push-returns-in-Or : goal.push-returns-in-Or
push-returns-in-Or t c = rw (as_form (form_in c.args.self.now) c.args.e.now (tree.Or c.in-Or.a c.in-Or.b) _ c.in-Or.is (of_Or (form_in c.args.self.now) c.in-Or.a c.in-Or.b)) (search rules)

pub push-returns-in-Choice : goal.push-returns-in-Choice
push-returns-in-Choice t c = rw (as_form (form_in c.args.self.now) c.args.e.now (tree.Choice c.in-Choice.c c.in-Choice.a c.in-Choice.b) _ c.in-Choice.is (of_Choice (form_in c.args.self.now) c.in-Choice.c c.in-Choice.a c.in-Choice.b)) (search rules)

pub push-returns-in-Comma : goal.push-returns-in-Comma
push-returns-in-Comma t c = rw (as_form (form_in c.args.self.now) c.args.e.now (tree.Comma c.in-Comma.a c.in-Comma.b) _ c.in-Comma.is (of_Comma (form_in c.args.self.now) c.in-Comma.a c.in-Comma.b)) (search rules)

pub push-returns-in-Assign : goal.push-returns-in-Assign
push-returns-in-Assign t c = rw (as_form (form_in c.args.self.now) c.args.e.now (tree.Assign c.in-Assign.a c.in-Assign.b) _ c.in-Assign.is (of_Assign (form_in c.args.self.now) c.in-Assign.a c.in-Assign.b)) (search rules)

pub push-returns-in-Compound : goal.push-returns-in-Compound
push-returns-in-Compound t c = rw (as_form (form_in c.args.self.now) c.args.e.now (tree.Compound c.in-Compound.field-0 c.in-Compound.a c.in-Compound.b c.in-Compound.field-3) _ c.in-Compound.is (of_Compound (form_in c.args.self.now) c.in-Compound.field-0 c.in-Compound.a c.in-Compound.b c.in-Compound.field-3)) (search rules)

pub push-returns-in-Step : goal.push-returns-in-Step
push-returns-in-Step t c = rw (as_form (form_in c.args.self.now) c.args.e.now (tree.Step c.in-Step.field-0 c.in-Step.field-1 c.in-Step.a c.in-Step.field-3) _ c.in-Step.is (of_Step (form_in c.args.self.now) c.in-Step.field-0 c.in-Step.field-1 c.in-Step.a c.in-Step.field-3)) (search rules)

pub push-returns-in_ok-push_callee-in-Call : goal.push-returns-in_ok-push_callee-in-Call
push-returns-in_ok-push_callee-in-Call t c = rw (as_form (form_in c.args.self.now) c.args.e.now (tree.Call c.in-Call.callee c.in-Call.args) _ c.in-Call.is (of_Call (form_in c.args.self.now) c.in-Call.callee c.in-Call.args), sym c.list-in-Call.ensures) (then_more c.push_all.result c.args.out.now.items c.push_callee.new.out.items c.push_all.new.out.items _ _ c.in_ok-push_callee-in-Call.ensures c.push_all.ensures)

pub push-returns-in-Library : goal.push-returns-in-Library
push-returns-in-Library t c = rw (as_form (form_in c.args.self.now) c.args.e.now (tree.Library c.in-Library.call) _ c.in-Library.is (of_Library (form_in c.args.self.now) c.in-Library.call)) (search rules)

pub push-returns-in-Extern : goal.push-returns-in-Extern
push-returns-in-Extern t c = rw (as_form (form_in c.args.self.now) c.args.e.now (tree.Extern c.in-Extern.field-0 c.in-Extern.args) _ c.in-Extern.is (of_Extern (form_in c.args.self.now) c.in-Extern.field-0 c.in-Extern.args)) (search rules)

pub push-returns-in-Size : goal.push-returns-in-Size
push-returns-in-Size t c = rw (as_form (form_in c.args.self.now) c.args.e.now (tree.Size c.in-Size.field-0) _ c.in-Size.is (of_Size (form_in c.args.self.now) c.in-Size.field-0)) (no_more c.args.out.now.items)

pub push-returns-in-Load : goal.push-returns-in-Load
push-returns-in-Load t c = rw (as_form (form_in c.args.self.now) c.args.e.now (tree.Load c.in-Load.a) _ c.in-Load.is (of_Load (form_in c.args.self.now) c.in-Load.a)) (search rules)

pub push-returns-in-Decay : goal.push-returns-in-Decay
push-returns-in-Decay t c = rw (as_form (form_in c.args.self.now) c.args.e.now (tree.Decay c.in-Decay.a) _ c.in-Decay.is (of_Decay (form_in c.args.self.now) c.in-Decay.a)) (search rules)

pub push-returns-in-Convert : goal.push-returns-in-Convert
push-returns-in-Convert t c = rw (as_form (form_in c.args.self.now) c.args.e.now (tree.Convert c.in-Convert.a) _ c.in-Convert.is (of_Convert (form_in c.args.self.now) c.in-Convert.a)) (search rules)

pub push-returns-in-Discard : goal.push-returns-in-Discard
push-returns-in-Discard t c = rw (as_form (form_in c.args.self.now) c.args.e.now (tree.Discard c.in-Discard.a) _ c.in-Discard.is (of_Discard (form_in c.args.self.now) c.in-Discard.a)) (search rules)

pub push-returns-in-Null : goal.push-returns-in-Null
push-returns-in-Null t c = rw (as_form (form_in c.args.self.now) c.args.e.now tree.Null _ c.in-Null.is (of_Null (form_in c.args.self.now))) (no_more c.args.out.now.items)

pub push_library-returns-in-Create : goal.push_library-returns-in-Create
push_library-returns-in-Create t c = rw (as_call (form_in c.args.self.now) c.args.call.now (library.Create c.in-Create.a c.in-Create.field-1 c.in-Create.b) _ (node_of c.args.e.now) c.in-Create.is (calls.of_Create (form_in c.args.self.now) c.in-Create.a c.in-Create.field-1 c.in-Create.b)) (search rules)

pub push_library-returns-in-Join : goal.push_library-returns-in-Join
push_library-returns-in-Join t c = rw (as_call (form_in c.args.self.now) c.args.call.now (library.Join c.in-Join.a) _ (node_of c.args.e.now) c.in-Join.is (calls.of_Join (form_in c.args.self.now) c.in-Join.a)) (search rules)

pub push_library-returns-in-Detach : goal.push_library-returns-in-Detach
push_library-returns-in-Detach t c = rw (as_call (form_in c.args.self.now) c.args.call.now (library.Detach c.in-Detach.a) _ (node_of c.args.e.now) c.in-Detach.is (calls.of_Detach (form_in c.args.self.now) c.in-Detach.a)) (search rules)

pub push_library-returns-in-ExitThread : goal.push_library-returns-in-ExitThread
push_library-returns-in-ExitThread t c = rw (as_call (form_in c.args.self.now) c.args.call.now (library.ExitThread c.in-ExitThread.a) _ (node_of c.args.e.now) c.in-ExitThread.is (calls.of_ExitThread (form_in c.args.self.now) c.in-ExitThread.a)) (search rules)

pub push_library-returns-in-SelfId : goal.push_library-returns-in-SelfId
push_library-returns-in-SelfId t c = rw (as_call (form_in c.args.self.now) c.args.call.now library.SelfId _ (node_of c.args.e.now) c.in-SelfId.is (calls.of_SelfId (form_in c.args.self.now))) (no_more c.args.out.now.items)

pub push_library-returns-in-Equal : goal.push_library-returns-in-Equal
push_library-returns-in-Equal t c = rw (as_call (form_in c.args.self.now) c.args.call.now (library.Equal c.in-Equal.a c.in-Equal.b) _ (node_of c.args.e.now) c.in-Equal.is (calls.of_Equal (form_in c.args.self.now) c.in-Equal.a c.in-Equal.b)) (search rules)

pub push_library-returns-in-Init : goal.push_library-returns-in-Init
push_library-returns-in-Init t c = rw (as_call (form_in c.args.self.now) c.args.call.now (library.Init c.in-Init.a) _ (node_of c.args.e.now) c.in-Init.is (calls.of_Init (form_in c.args.self.now) c.in-Init.a)) (search rules)

pub push_library-returns-in-Destroy : goal.push_library-returns-in-Destroy
push_library-returns-in-Destroy t c = rw (as_call (form_in c.args.self.now) c.args.call.now (library.Destroy c.in-Destroy.a) _ (node_of c.args.e.now) c.in-Destroy.is (calls.of_Destroy (form_in c.args.self.now) c.in-Destroy.a)) (search rules)

pub push_library-returns-in-Lock : goal.push_library-returns-in-Lock
push_library-returns-in-Lock t c = rw (as_call (form_in c.args.self.now) c.args.call.now (library.Lock c.in-Lock.a) _ (node_of c.args.e.now) c.in-Lock.is (calls.of_Lock (form_in c.args.self.now) c.in-Lock.a)) (search rules)

pub push_library-returns-in-Unlock : goal.push_library-returns-in-Unlock
push_library-returns-in-Unlock t c = rw (as_call (form_in c.args.self.now) c.args.call.now (library.Unlock c.in-Unlock.a) _ (node_of c.args.e.now) c.in-Unlock.is (calls.of_Unlock (form_in c.args.self.now) c.in-Unlock.a)) (search rules)

pub push_library-returns-in-Signal : goal.push_library-returns-in-Signal
push_library-returns-in-Signal t c = rw (as_call (form_in c.args.self.now) c.args.call.now (library.Signal c.in-Signal.a) _ (node_of c.args.e.now) c.in-Signal.is (calls.of_Signal (form_in c.args.self.now) c.in-Signal.a)) (search rules)

pub push_library-returns-in-Wait : goal.push_library-returns-in-Wait
push_library-returns-in-Wait t c = rw (as_call (form_in c.args.self.now) c.args.call.now (library.Wait c.in-Wait.a c.in-Wait.b) _ (node_of c.args.e.now) c.in-Wait.is (calls.of_Wait (form_in c.args.self.now) c.in-Wait.a c.in-Wait.b)) (search rules)

pub push_library-returns-in_ok-push_allocation-in-Allocate : goal.push_library-returns-in_ok-push_allocation-in-Allocate
push_library-returns-in_ok-push_allocation-in-Allocate t c = rw (as_call (form_in c.args.self.now) c.args.call.now (library.Allocate c.in-Allocate.ty c.in-Allocate.count c.in-Allocate.field-2) _ (node_of c.args.e.now) c.in-Allocate.is (calls.of_Allocate (form_in c.args.self.now) c.in-Allocate.ty c.in-Allocate.count c.in-Allocate.field-2), sym c.is_one.ensures) (then_more c.push_boxed.result c.args.out.now.items c.push_allocation.new.out.items c.push_boxed.new.out.items _ _ c.in_ok-push_allocation-in-Allocate.ensures c.push_boxed.ensures)

pub push_library-returns-in-Free : goal.push_library-returns-in-Free
push_library-returns-in-Free t c = rw (as_call (form_in c.args.self.now) c.args.call.now (library.Free c.in-Free.a) _ (node_of c.args.e.now) c.in-Free.is (calls.of_Free (form_in c.args.self.now) c.in-Free.a)) (search rules)

pub push_library-returns-in-Exit : goal.push_library-returns-in-Exit
push_library-returns-in-Exit t c = rw (as_call (form_in c.args.self.now) c.args.call.now (library.Exit c.in-Exit.status) _ (node_of c.args.e.now) c.in-Exit.is (calls.of_Exit (form_in c.args.self.now) c.in-Exit.status)) (search rules)

pub push_library-returns-in-Scan : goal.push_library-returns-in-Scan
push_library-returns-in-Scan t c = rw (as_call (form_in c.args.self.now) c.args.call.now (library.Scan c.in-Scan.a) _ (node_of c.args.e.now) c.in-Scan.is (calls.of_Scan (form_in c.args.self.now) c.in-Scan.a)) (search rules)

pub push_library-returns-in_ok-push-in-Print : goal.push_library-returns-in_ok-push-in-Print
push_library-returns-in_ok-push-in-Print t c = rw (as_call (form_in c.args.self.now) c.args.call.now (library.Print c.in-Print.format c.in-Print.args) _ (node_of c.args.e.now) c.in-Print.is (calls.of_Print (form_in c.args.self.now) c.in-Print.format c.in-Print.args), sym c.get-in-Print.ensures, sym c.list.ensures) (then_more c.push_all.result c.args.out.now.items c.push-in-Print.new.out.items c.push_all.new.out.items _ _ c.in_ok-push-in-Print.ensures c.push_all.ensures)

pub push_library-returns-in-Compute : goal.push_library-returns-in-Compute
push_library-returns-in-Compute t c = rw (as_call (form_in c.args.self.now) c.args.call.now (library.Compute c.in-Compute.args) _ (node_of c.args.e.now) c.in-Compute.is (calls.of_Compute (form_in c.args.self.now) c.in-Compute.args)) (search rules)

pub push_both-returns : goal.push_both-returns
push_both-returns t c = then_more c.push-2.result c.args.out.now.items c.push.new.out.items c.push-2.new.out.items (owned (form_in c.args.self.now) c.args.a.now) (owned (form_in c.args.self.now) c.args.b.now) c.in_ok-push.ensures c.push-2.ensures

pub push_deciding-returns : goal.push_deciding-returns
push_deciding-returns t c = then_more c.push_both.result c.args.out.now.items c.push_hidden.new.out.items c.push_both.new.out.items (hidden (node_of c.args.e.now) ∷ []) ((owned (form_in c.args.self.now) c.args.a.now) ++ (owned (form_in c.args.self.now) c.args.b.now)) c.in_ok-push_hidden.ensures c.push_both.ensures

pub push_choice-returns : goal.push_choice-returns
push_choice-returns t c = then_more c.push_both.result c.args.out.now.items c.push_chosen.new.out.items c.push_both.new.out.items (hidden_of (form_in c.args.self.now) (form_in c.args.self.now c.args.e.now.ty) (node_of c.args.e.now)) ((owned (form_in c.args.self.now) c.args.c.now) ++ ((owned (form_in c.args.self.now) c.args.a.now) ++ (owned (form_in c.args.self.now) c.args.b.now))) c.in_ok-push_chosen.ensures
    (then_more c.push_both.result c.push_chosen.new.out.items c.push.new.out.items c.push_both.new.out.items (owned (form_in c.args.self.now) c.args.c.now) ((owned (form_in c.args.self.now) c.args.a.now) ++ (owned (form_in c.args.self.now) c.args.b.now)) c.in_ok-push.ensures c.push_both.ensures)

pub push_callee-returns-in-Function : goal.push_callee-returns-in-Function
push_callee-returns-in-Function t c = rw (of_named (form_in c.args.self.now) c.args.callee.now c.in-Function.field-0 c.in-Function.is) (no_more c.args.out.now.items)

pub push_callee-returns-in-Pointer : goal.push_callee-returns-in-Pointer
push_callee-returns-in-Pointer t c = rw (of_pointer (form_in c.args.self.now) c.args.callee.now c.in-Pointer.function c.in-Pointer.is) (search rules)

pub push_all-loop-e-preserved : goal.push_all-loop-e-preserved
push_all-loop-e-preserved t c = loop_more (λ list. all_of (map (owned (form_in c.args.self.now)) list)) (owned (form_in c.args.self.now)) (λ x xs. refl) c.args.list.now c.loop-e.e-index c.e-item.result _ (all_found c.loop-e.out.items) (all_found c.push.new.out.items) c.loop-e-test.true c.e-item.is c.loop-e.invariant c.in_ok-push.ensures
