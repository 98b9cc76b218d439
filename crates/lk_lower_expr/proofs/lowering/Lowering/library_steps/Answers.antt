use Rattle.std.proofs.Common.{rules}
use Rattle.lk_lower_expr.proofs.Calls.{as_call, of_Allocate, of_Create, of_Join, of_Detach, of_Init, of_Destroy, of_Lock, of_Unlock, of_Signal, of_Free, of_ExitThread, of_Exit, of_SelfId, of_Equal, of_Wait, of_Scan, of_Print, of_Compute}
use Rattle.lk_lower_expr.specs.Naming.{node_of}
use Rattle.lk_lower_expr.specs.Reads.{names_by}
use Rattle.lk_typed.specs.declared.library.LibraryCall.TheVariants as library
use Rattle.lk_lower_expr.proofs.lowering.Lowering.library_steps.Goals as goal

pub returns-in-Create : goal.returns-in-Create
returns-in-Create c = rw (as_call (names_by c.args.self.now) c.args.call.now (library.Create c.in-Create.id c.in-Create.entity c.in-Create.argument) _ (node_of c.args.e.now) c.in-Create.is (of_Create (names_by c.args.self.now) c.in-Create.id c.in-Create.entity c.in-Create.argument)) (search rules)

pub returns-in_ok-value_of-in-Join : goal.returns-in_ok-value_of-in-Join
returns-in_ok-value_of-in-Join c = rw (as_call (names_by c.args.self.now) c.args.call.now (library.Join c.in-Join.a) _ (node_of c.args.e.now) c.in-Join.is (of_Join (names_by c.args.self.now) c.in-Join.a)) (search rules)

pub returns-in_ok-value_of-in-Detach : goal.returns-in_ok-value_of-in-Detach
returns-in_ok-value_of-in-Detach c = rw (as_call (names_by c.args.self.now) c.args.call.now (library.Detach c.in-Detach.a) _ (node_of c.args.e.now) c.in-Detach.is (of_Detach (names_by c.args.self.now) c.in-Detach.a)) (search rules)

pub returns-in_ok-value_of-in-Init : goal.returns-in_ok-value_of-in-Init
returns-in_ok-value_of-in-Init c = rw (as_call (names_by c.args.self.now) c.args.call.now (library.Init c.in-Init.a) _ (node_of c.args.e.now) c.in-Init.is (of_Init (names_by c.args.self.now) c.in-Init.a)) (search rules)

pub returns-in_ok-value_of-in-Destroy : goal.returns-in_ok-value_of-in-Destroy
returns-in_ok-value_of-in-Destroy c = rw (as_call (names_by c.args.self.now) c.args.call.now (library.Destroy c.in-Destroy.a) _ (node_of c.args.e.now) c.in-Destroy.is (of_Destroy (names_by c.args.self.now) c.in-Destroy.a)) (search rules)

pub returns-in_ok-value_of-in-Lock : goal.returns-in_ok-value_of-in-Lock
returns-in_ok-value_of-in-Lock c = rw (as_call (names_by c.args.self.now) c.args.call.now (library.Lock c.in-Lock.a) _ (node_of c.args.e.now) c.in-Lock.is (of_Lock (names_by c.args.self.now) c.in-Lock.a)) (search rules)

pub returns-in_ok-value_of-in-Unlock : goal.returns-in_ok-value_of-in-Unlock
returns-in_ok-value_of-in-Unlock c = rw (as_call (names_by c.args.self.now) c.args.call.now (library.Unlock c.in-Unlock.a) _ (node_of c.args.e.now) c.in-Unlock.is (of_Unlock (names_by c.args.self.now) c.in-Unlock.a)) (search rules)

pub returns-in_ok-value_of-in-Signal : goal.returns-in_ok-value_of-in-Signal
returns-in_ok-value_of-in-Signal c = rw (as_call (names_by c.args.self.now) c.args.call.now (library.Signal c.in-Signal.a) _ (node_of c.args.e.now) c.in-Signal.is (of_Signal (names_by c.args.self.now) c.in-Signal.a)) (search rules)

pub returns-in_ok-value_of-in-Free : goal.returns-in_ok-value_of-in-Free
returns-in_ok-value_of-in-Free c = rw (as_call (names_by c.args.self.now) c.args.call.now (library.Free c.in-Free.a) _ (node_of c.args.e.now) c.in-Free.is (of_Free (names_by c.args.self.now) c.in-Free.a)) (search rules)

pub returns-in-ExitThread : goal.returns-in-ExitThread
returns-in-ExitThread c = rw (as_call (names_by c.args.self.now) c.args.call.now (library.ExitThread c.in-ExitThread.field-0) _ (node_of c.args.e.now) c.in-ExitThread.is (of_ExitThread (names_by c.args.self.now) c.in-ExitThread.field-0)) (search rules)

pub returns-in-Exit : goal.returns-in-Exit
returns-in-Exit c = rw (as_call (names_by c.args.self.now) c.args.call.now (library.Exit c.in-Exit.field-0) _ (node_of c.args.e.now) c.in-Exit.is (of_Exit (names_by c.args.self.now) c.in-Exit.field-0)) (search rules)

pub returns-in-SelfId : goal.returns-in-SelfId
returns-in-SelfId c = rw (as_call (names_by c.args.self.now) c.args.call.now library.SelfId _ (node_of c.args.e.now) c.in-SelfId.is (of_SelfId (names_by c.args.self.now))) (search rules)

pub returns-in-Equal : goal.returns-in-Equal
returns-in-Equal c = rw (as_call (names_by c.args.self.now) c.args.call.now (library.Equal c.in-Equal.a c.in-Equal.b) _ (node_of c.args.e.now) c.in-Equal.is (of_Equal (names_by c.args.self.now) c.in-Equal.a c.in-Equal.b)) (search rules)

pub returns-in-Wait : goal.returns-in-Wait
returns-in-Wait c = rw (as_call (names_by c.args.self.now) c.args.call.now (library.Wait c.in-Wait.cond c.in-Wait.mutex) _ (node_of c.args.e.now) c.in-Wait.is (of_Wait (names_by c.args.self.now) c.in-Wait.cond c.in-Wait.mutex)) (search rules)

pub returns-in-Scan : goal.returns-in-Scan
returns-in-Scan c = rw (as_call (names_by c.args.self.now) c.args.call.now (library.Scan c.in-Scan.a) _ (node_of c.args.e.now) c.in-Scan.is (of_Scan (names_by c.args.self.now) c.in-Scan.a)) (search rules)

pub returns-in-Print : goal.returns-in-Print
returns-in-Print c = rw (as_call (names_by c.args.self.now) c.args.call.now (library.Print c.in-Print.format c.in-Print.args) _ (node_of c.args.e.now) c.in-Print.is (of_Print (names_by c.args.self.now) c.in-Print.format c.in-Print.args)) (search rules)

pub returns-in-Compute : goal.returns-in-Compute
returns-in-Compute c = rw (as_call (names_by c.args.self.now) c.args.call.now (library.Compute c.in-Compute.args) _ (node_of c.args.e.now) c.in-Compute.is (of_Compute (names_by c.args.self.now) c.in-Compute.args)) (search rules)

pub returns-in-Allocate : goal.returns-in-Allocate
returns-in-Allocate c = rw (as_call (names_by c.args.self.now) c.args.call.now (library.Allocate c.in-Allocate.ty c.in-Allocate.count c.in-Allocate.zero) _ (node_of c.args.e.now) c.in-Allocate.is (of_Allocate (names_by c.args.self.now) c.in-Allocate.ty c.in-Allocate.count c.in-Allocate.zero)) (search rules)
