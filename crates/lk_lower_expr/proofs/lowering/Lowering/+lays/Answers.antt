use Rattle.std.proofs.Common.{rules, refl, sym, ap, ◌∙◌, ◌-◌, drop, length}
use Rattle.std.specs.Prelude.{map}
use Rattle.lk_lower_expr.proofs.Named.{name_in}
use Rattle.lk_lower_expr.proofs.Forms.{as_form, of_Address, of_And, of_Arrow, of_Binary, of_Comma, of_Convert, of_Decay, of_Discard, of_Extern, of_Index, of_Indirection, of_Library, of_Load, of_Member, of_Or, of_Unary}
use Rattle.lk_lower_expr.proofs.Inside.{assign_in, change_in, choice_in, compound_in, paren_in}
use Rattle.lk_lower_expr.proofs.Calls.{as_call, of_Create, of_Join, of_Detach, of_ExitThread, of_Init, of_Destroy, of_Lock, of_Unlock, of_Signal, of_Free, of_Scan, of_Equal, of_Wait, of_Print, of_Compute, of_Allocate, of_Exit}
use Rattle.lk_typed.specs.declared.library.LibraryCall.TheVariants as library
use Rattle.lk_lower_expr.proofs.Operands.{from_end}
use Rattle.lk_lower_expr.specs.Expressions.{part}
use Rattle.lk_lower_expr.specs.Laid.{laid}
use Rattle.lk_lower_expr.specs.Naming.{node_of}
use Rattle.lk_lower_expr.specs.Reads.{names_by}
use Rattle.lk_lower_expr.specs.Parts.{first_of, goes, in_turn}
use Rattle.lk_typed.specs.declared.expression.TypedForm.TheVariants as form
use Rattle.lk_lower_expr.proofs.lowering.Lowering.+lays.Goals as goal

pub push_inside-returns-in-Member : goal.push_inside-returns-in-Member
push_inside-returns-in-Member t c = rw (as_form (names_by c.args.self.now) c.args.e.now (form.Member c.in-Member.a c.in-Member.field-1) _ c.in-Member.is (of_Member (names_by c.args.self.now) c.in-Member.a c.in-Member.field-1)) (search rules)

pub push_inside-returns-in-Arrow : goal.push_inside-returns-in-Arrow
push_inside-returns-in-Arrow t c = rw (as_form (names_by c.args.self.now) c.args.e.now (form.Arrow c.in-Arrow.a c.in-Arrow.field-1) _ c.in-Arrow.is (of_Arrow (names_by c.args.self.now) c.in-Arrow.a c.in-Arrow.field-1)) (search rules)

pub push_inside-returns-in-Unary : goal.push_inside-returns-in-Unary
push_inside-returns-in-Unary t c = rw (as_form (names_by c.args.self.now) c.args.e.now (form.Unary c.in-Unary.field-0 c.in-Unary.a) _ c.in-Unary.is (of_Unary (names_by c.args.self.now) c.in-Unary.field-0 c.in-Unary.a)) (search rules)

pub push_inside-returns-in-Indirection : goal.push_inside-returns-in-Indirection
push_inside-returns-in-Indirection t c = rw (as_form (names_by c.args.self.now) c.args.e.now (form.Indirection c.in-Indirection.a) _ c.in-Indirection.is (of_Indirection (names_by c.args.self.now) c.in-Indirection.a)) (search rules)

pub push_inside-returns-in-Address : goal.push_inside-returns-in-Address
push_inside-returns-in-Address t c = rw (as_form (names_by c.args.self.now) c.args.e.now (form.Address c.in-Address.a) _ c.in-Address.is (of_Address (names_by c.args.self.now) c.in-Address.a)) (search rules)

pub push_inside-returns-in-Discard : goal.push_inside-returns-in-Discard
push_inside-returns-in-Discard t c = rw (as_form (names_by c.args.self.now) c.args.e.now (form.Discard c.in-Discard.a) _ c.in-Discard.is (of_Discard (names_by c.args.self.now) c.in-Discard.a)) (search rules)

pub push_inside-returns-in-Index : goal.push_inside-returns-in-Index
push_inside-returns-in-Index t c = rw (as_form (names_by c.args.self.now) c.args.e.now (form.Index c.in-Index.a c.in-Index.b) _ c.in-Index.is (of_Index (names_by c.args.self.now) c.in-Index.a c.in-Index.b)) (search rules)

pub push_inside-returns-in-Binary : goal.push_inside-returns-in-Binary
push_inside-returns-in-Binary t c = rw (as_form (names_by c.args.self.now) c.args.e.now (form.Binary c.in-Binary.field-0 c.in-Binary.a c.in-Binary.b) _ c.in-Binary.is (of_Binary (names_by c.args.self.now) c.in-Binary.field-0 c.in-Binary.a c.in-Binary.b)) (search rules)

pub push_inside-returns-in-Comma : goal.push_inside-returns-in-Comma
push_inside-returns-in-Comma t c = rw (as_form (names_by c.args.self.now) c.args.e.now (form.Comma c.in-Comma.a c.in-Comma.b) _ c.in-Comma.is (of_Comma (names_by c.args.self.now) c.in-Comma.a c.in-Comma.b)) (search rules)

pub push_inside-returns-in-Extern : goal.push_inside-returns-in-Extern
push_inside-returns-in-Extern t c = rw (as_form (names_by c.args.self.now) c.args.e.now (form.Extern c.in-Extern.field-0 c.in-Extern.args) _ c.in-Extern.is (of_Extern (names_by c.args.self.now) c.in-Extern.field-0 c.in-Extern.args)) (search rules)

pub push_inside-returns-in-Library : goal.push_inside-returns-in-Library
push_inside-returns-in-Library t c = rw (as_form (names_by c.args.self.now) c.args.e.now (form.Library c.in-Library.call) _ c.in-Library.is (of_Library (names_by c.args.self.now) c.in-Library.call)) (search rules)

pub push_inside-returns-in-And : goal.push_inside-returns-in-And
push_inside-returns-in-And t c = rw (as_form (names_by c.args.self.now) c.args.e.now (form.And c.in-And.a c.in-And.b) _ c.in-And.is (of_And (names_by c.args.self.now) c.in-And.a c.in-And.b)) (search rules)

pub push_inside-returns-in-Or : goal.push_inside-returns-in-Or
push_inside-returns-in-Or t c = rw (as_form (names_by c.args.self.now) c.args.e.now (form.Or c.in-Or.a c.in-Or.b) _ c.in-Or.is (of_Or (names_by c.args.self.now) c.in-Or.a c.in-Or.b)) (search rules)

pub push_inside-returns-in-Load : goal.push_inside-returns-in-Load
push_inside-returns-in-Load t c = rw (as_form (names_by c.args.self.now) c.args.e.now (form.Load c.in-Load.a) _ c.in-Load.is (of_Load (names_by c.args.self.now) c.in-Load.a)) (search rules)

pub push_inside-returns-in-Decay : goal.push_inside-returns-in-Decay
push_inside-returns-in-Decay t c = rw (as_form (names_by c.args.self.now) c.args.e.now (form.Decay c.in-Decay.a) _ c.in-Decay.is (of_Decay (names_by c.args.self.now) c.in-Decay.a)) (search rules)

pub push_inside-returns-in-Convert : goal.push_inside-returns-in-Convert
push_inside-returns-in-Convert t c = rw (as_form (names_by c.args.self.now) c.args.e.now (form.Convert c.in-Convert.a) _ c.in-Convert.is (of_Convert (names_by c.args.self.now) c.in-Convert.a)) (search rules)

pub push_inside-returns-in-Paren : goal.push_inside-returns-in-Paren
push_inside-returns-in-Paren t c = rw (paren_in (names_by c.args.self.now) c.args.on c.args.out.now.items c.args.e.now c.in-Paren.a c.in-Paren.is) (search rules)

pub push_inside-returns-in-Step : goal.push_inside-returns-in-Step
push_inside-returns-in-Step t c = rw (change_in (names_by c.args.self.now) c.args.on c.args.out.now.items c.args.e.now c.in-Step.field-0 c.in-Step.field-1 c.in-Step.a c.in-Step.field-3 c.in-Step.is) (search rules)

pub push_inside-returns-in_ok-push_steps-in-Choice-2 : goal.push_inside-returns-in_ok-push_steps-in-Choice-2
push_inside-returns-in_ok-push_steps-in-Choice-2 t c = rw (choice_in (names_by c.args.self.now) c.args.on c.args.out.now.items c.args.e.now c.in-Choice.c c.in-Choice.a c.in-Choice.b c.in-Choice.is) (search rules)

pub push_inside-returns-in-Assign : goal.push_inside-returns-in-Assign
push_inside-returns-in-Assign t c = rw (assign_in (names_by c.args.self.now) c.args.on c.args.out.now.items c.args.e.now c.in-Assign.a c.in-Assign.b c.in-Assign.is) (search rules)

pub push_inside-returns-in-Compound : goal.push_inside-returns-in-Compound
push_inside-returns-in-Compound t c = rw (compound_in (names_by c.args.self.now) c.args.on c.args.out.now.items c.args.e.now c.in-Compound.field-0 c.in-Compound.a c.in-Compound.b c.in-Compound.field-3 c.in-Compound.is) (search rules)

pub push_library-returns-in-Create : goal.push_library-returns-in-Create
push_library-returns-in-Create t c = rw (as_call (names_by c.args.self.now) c.args.call.now (library.Create c.in-Create.id c.in-Create.field-1 c.in-Create.argument) _ (node_of c.args.e.now) c.in-Create.is (of_Create (names_by c.args.self.now) c.in-Create.id c.in-Create.field-1 c.in-Create.argument)) (search rules)

pub push_library-returns-in-Join : goal.push_library-returns-in-Join
push_library-returns-in-Join t c = rw (as_call (names_by c.args.self.now) c.args.call.now (library.Join c.in-Join.a) _ (node_of c.args.e.now) c.in-Join.is (of_Join (names_by c.args.self.now) c.in-Join.a)) (search rules)

pub push_library-returns-in-Detach : goal.push_library-returns-in-Detach
push_library-returns-in-Detach t c = rw (as_call (names_by c.args.self.now) c.args.call.now (library.Detach c.in-Detach.a) _ (node_of c.args.e.now) c.in-Detach.is (of_Detach (names_by c.args.self.now) c.in-Detach.a)) (search rules)

pub push_library-returns-in-ExitThread : goal.push_library-returns-in-ExitThread
push_library-returns-in-ExitThread t c = rw (as_call (names_by c.args.self.now) c.args.call.now (library.ExitThread c.in-ExitThread.a) _ (node_of c.args.e.now) c.in-ExitThread.is (of_ExitThread (names_by c.args.self.now) c.in-ExitThread.a)) (search rules)

pub push_library-returns-in-Init : goal.push_library-returns-in-Init
push_library-returns-in-Init t c = rw (as_call (names_by c.args.self.now) c.args.call.now (library.Init c.in-Init.a) _ (node_of c.args.e.now) c.in-Init.is (of_Init (names_by c.args.self.now) c.in-Init.a)) (search rules)

pub push_library-returns-in-Destroy : goal.push_library-returns-in-Destroy
push_library-returns-in-Destroy t c = rw (as_call (names_by c.args.self.now) c.args.call.now (library.Destroy c.in-Destroy.a) _ (node_of c.args.e.now) c.in-Destroy.is (of_Destroy (names_by c.args.self.now) c.in-Destroy.a)) (search rules)

pub push_library-returns-in-Lock : goal.push_library-returns-in-Lock
push_library-returns-in-Lock t c = rw (as_call (names_by c.args.self.now) c.args.call.now (library.Lock c.in-Lock.a) _ (node_of c.args.e.now) c.in-Lock.is (of_Lock (names_by c.args.self.now) c.in-Lock.a)) (search rules)

pub push_library-returns-in-Unlock : goal.push_library-returns-in-Unlock
push_library-returns-in-Unlock t c = rw (as_call (names_by c.args.self.now) c.args.call.now (library.Unlock c.in-Unlock.a) _ (node_of c.args.e.now) c.in-Unlock.is (of_Unlock (names_by c.args.self.now) c.in-Unlock.a)) (search rules)

pub push_library-returns-in-Signal : goal.push_library-returns-in-Signal
push_library-returns-in-Signal t c = rw (as_call (names_by c.args.self.now) c.args.call.now (library.Signal c.in-Signal.a) _ (node_of c.args.e.now) c.in-Signal.is (of_Signal (names_by c.args.self.now) c.in-Signal.a)) (search rules)

pub push_library-returns-in-Free : goal.push_library-returns-in-Free
push_library-returns-in-Free t c = rw (as_call (names_by c.args.self.now) c.args.call.now (library.Free c.in-Free.a) _ (node_of c.args.e.now) c.in-Free.is (of_Free (names_by c.args.self.now) c.in-Free.a)) (search rules)

pub push_library-returns-in-Scan : goal.push_library-returns-in-Scan
push_library-returns-in-Scan t c = rw (as_call (names_by c.args.self.now) c.args.call.now (library.Scan c.in-Scan.a) _ (node_of c.args.e.now) c.in-Scan.is (of_Scan (names_by c.args.self.now) c.in-Scan.a)) (search rules)

pub push_library-returns-in-Equal : goal.push_library-returns-in-Equal
push_library-returns-in-Equal t c = rw (as_call (names_by c.args.self.now) c.args.call.now (library.Equal c.in-Equal.a c.in-Equal.b) _ (node_of c.args.e.now) c.in-Equal.is (of_Equal (names_by c.args.self.now) c.in-Equal.a c.in-Equal.b)) (search rules)

pub push_library-returns-in-Wait : goal.push_library-returns-in-Wait
push_library-returns-in-Wait t c = rw (as_call (names_by c.args.self.now) c.args.call.now (library.Wait c.in-Wait.cond c.in-Wait.mutex) _ (node_of c.args.e.now) c.in-Wait.is (of_Wait (names_by c.args.self.now) c.in-Wait.cond c.in-Wait.mutex)) (search rules)

pub push_library-returns-in_ok-begins-in-Print : goal.push_library-returns-in_ok-begins-in-Print
push_library-returns-in_ok-begins-in-Print t c = rw (as_call (names_by c.args.self.now) c.args.call.now (library.Print c.in-Print.format c.in-Print.args) _ (node_of c.args.e.now) c.in-Print.is (of_Print (names_by c.args.self.now) c.in-Print.format c.in-Print.args)) (search rules)

pub push_library-returns-in-Compute : goal.push_library-returns-in-Compute
push_library-returns-in-Compute t c = rw (as_call (names_by c.args.self.now) c.args.call.now (library.Compute c.in-Compute.args) _ (node_of c.args.e.now) c.in-Compute.is (of_Compute (names_by c.args.self.now) c.in-Compute.args)) (search rules)

pub push_library-returns-in-Some : goal.push_library-returns-in-Some
push_library-returns-in-Some t c = rw (as_call (names_by c.args.self.now) c.args.call.now (library.Allocate c.in-Allocate.field-0 c.in-Allocate.count c.in-Allocate.field-2) _ (node_of c.args.e.now) c.in-Allocate.is (of_Allocate (names_by c.args.self.now) c.in-Allocate.field-0 c.in-Allocate.count c.in-Allocate.field-2), c.in-Some.is) (search rules)

pub push_library-returns-in-Some-status : goal.push_library-returns-in-Some-status
push_library-returns-in-Some-status t c = rw (as_call (names_by c.args.self.now) c.args.call.now (library.Exit c.in-Exit.status) _ (node_of c.args.e.now) c.in-Exit.is (of_Exit (names_by c.args.self.now) c.in-Exit.status), c.in-Some-status.is) (search rules)

pub push_operands-loop-k-preserved : goal.push_operands-loop-k-preserved
push_operands-loop-k-preserved t c =
    let names = names_by c.args.self.now in
    let x = c.index-operands-operands.result in
    let turn = from_end c.args.operands.now c.loop-k.k _ x c.loop-k-test.true refl c.index-operands-operands.is in
    let old = c.args.out.now.items in record {
      steps =
          c.in_ok-push_steps.ensures ∙ ap (λ n. laid (goes (part names x) n) c.loop-k.out.items) c.loop-k.invariant.next ∙
          ap (laid (goes (part names x) (first_of (map (part names) (drop (length c.args.operands.now - c.loop-k.k) c.args.operands.now)) c.args.on))) c.loop-k.invariant.steps ∙
          sym (ap (λ xs. laid (in_turn (map (part names) xs) c.args.on) old) turn);
      next = c.in_ok-next.ensures ∙ sym (ap (λ xs. first_of (map (part names) xs) c.args.on) turn);
    }

pub push_inside-returns-in-Object : goal.push_inside-returns-in-Object
push_inside-returns-in-Object t c = sym (name_in (names_by c.args.self.now) c.args.e.now _ c.args.on c.args.out.now.items c.in-Object.is)
