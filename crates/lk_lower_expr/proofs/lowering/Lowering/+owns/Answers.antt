use Rattle.std.proofs.Common.{rules, sym}
use Rattle.lk_lower_expr.proofs.Forms.{as_form, of_Object, of_Text, of_Member, of_Arrow, of_Index, of_Number, of_Size, of_Function, of_Null, of_Unary, of_Binary, of_And, of_Or, of_Choice, of_Assign, of_Compound, of_Call, of_Library, of_Extern, of_Load, of_Convert, of_Decay}
use Rattle.lk_lower_expr.proofs.Stepped.{change_steps, paren_steps}
use Rattle.lk_lower_expr.specs.Reads.{names_by}
use Rattle.lk_typed.specs.declared.expression.TypedForm.TheVariants as form
use Rattle.lk_lower_expr.proofs.lowering.Lowering.+owns.Goals as goal

pub own_steps-returns-in-Object : goal.own_steps-returns-in-Object
own_steps-returns-in-Object t c = rw (as_form (names_by c.args.self.now) c.args.e.now (form.Object c.in-Object.storage) _ c.in-Object.is (of_Object (names_by c.args.self.now) c.in-Object.storage)) c.name_steps.ensures

pub own_steps-returns-in-Text : goal.own_steps-returns-in-Text
own_steps-returns-in-Text t c = rw (as_form (names_by c.args.self.now) c.args.e.now (form.Text c.in-Text.field-0) _ c.in-Text.is (of_Text (names_by c.args.self.now) c.in-Text.field-0)) c.text_steps.ensures

pub own_steps-returns-in-Member : goal.own_steps-returns-in-Member
own_steps-returns-in-Member t c = rw (as_form (names_by c.args.self.now) c.args.e.now (form.Member c.in-Member.a c.in-Member.k) _ c.in-Member.is (of_Member (names_by c.args.self.now) c.in-Member.a c.in-Member.k), sym c.get.ensures) c.member_steps.ensures

pub own_steps-returns-in-Arrow : goal.own_steps-returns-in-Arrow
own_steps-returns-in-Arrow t c = rw (as_form (names_by c.args.self.now) c.args.e.now (form.Arrow c.in-Arrow.a c.in-Arrow.k) _ c.in-Arrow.is (of_Arrow (names_by c.args.self.now) c.in-Arrow.a c.in-Arrow.k), sym c.get-in-Arrow.ensures) c.member_steps-in-Arrow.ensures

pub own_steps-returns-in-Index : goal.own_steps-returns-in-Index
own_steps-returns-in-Index t c = rw (as_form (names_by c.args.self.now) c.args.e.now (form.Index c.in-Index.a c.in-Index.b) _ c.in-Index.is (of_Index (names_by c.args.self.now) c.in-Index.a c.in-Index.b), sym c.get-in-Index.ensures, sym c.get-in-Index-2.ensures) c.index_steps.ensures

pub own_steps-returns-in-Number : goal.own_steps-returns-in-Number
own_steps-returns-in-Number t c = rw (as_form (names_by c.args.self.now) c.args.e.now (form.Number c.in-Number.number) _ c.in-Number.is (of_Number (names_by c.args.self.now) c.in-Number.number)) (search rules)

pub own_steps-returns-in-Size : goal.own_steps-returns-in-Size
own_steps-returns-in-Size t c = rw (as_form (names_by c.args.self.now) c.args.e.now (form.Size c.in-Size.count) _ c.in-Size.is (of_Size (names_by c.args.self.now) c.in-Size.count)) (search rules)

pub own_steps-returns-in-Function : goal.own_steps-returns-in-Function
own_steps-returns-in-Function t c = rw (as_form (names_by c.args.self.now) c.args.e.now (form.Function c.in-Function.entity) _ c.in-Function.is (of_Function (names_by c.args.self.now) c.in-Function.entity)) c.function_steps.ensures

pub own_steps-returns-in-Null : goal.own_steps-returns-in-Null
own_steps-returns-in-Null t c = rw (as_form (names_by c.args.self.now) c.args.e.now form.Null _ c.in-Null.is (of_Null (names_by c.args.self.now))) c.null_steps.ensures

pub own_steps-returns-in-Unary : goal.own_steps-returns-in-Unary
own_steps-returns-in-Unary t c = rw (as_form (names_by c.args.self.now) c.args.e.now (form.Unary c.in-Unary.op c.in-Unary.a) _ c.in-Unary.is (of_Unary (names_by c.args.self.now) c.in-Unary.op c.in-Unary.a), sym c.get-in-Unary.ensures) c.unary_steps.ensures

pub own_steps-returns-in-Binary : goal.own_steps-returns-in-Binary
own_steps-returns-in-Binary t c = rw (as_form (names_by c.args.self.now) c.args.e.now (form.Binary c.in-Binary.op c.in-Binary.a c.in-Binary.b) _ c.in-Binary.is (of_Binary (names_by c.args.self.now) c.in-Binary.op c.in-Binary.a c.in-Binary.b), sym c.get-in-Binary.ensures, sym c.get-in-Binary-2.ensures) c.binary_steps.ensures

pub own_steps-returns-in-And : goal.own_steps-returns-in-And
own_steps-returns-in-And t c = rw (as_form (names_by c.args.self.now) c.args.e.now (form.And c.in-And.a c.in-And.b) _ c.in-And.is (of_And (names_by c.args.self.now) c.in-And.a c.in-And.b), sym c.get-in-And.ensures, sym c.get-in-And-2.ensures) c.and_steps.ensures

pub own_steps-returns-in-Or : goal.own_steps-returns-in-Or
own_steps-returns-in-Or t c = rw (as_form (names_by c.args.self.now) c.args.e.now (form.Or c.in-Or.a c.in-Or.b) _ c.in-Or.is (of_Or (names_by c.args.self.now) c.in-Or.a c.in-Or.b), sym c.get-in-Or.ensures, sym c.get-in-Or-2.ensures) c.or_steps.ensures

pub own_steps-returns-in-Choice : goal.own_steps-returns-in-Choice
own_steps-returns-in-Choice t c = rw (as_form (names_by c.args.self.now) c.args.e.now (form.Choice c.in-Choice.c c.in-Choice.a c.in-Choice.b) _ c.in-Choice.is (of_Choice (names_by c.args.self.now) c.in-Choice.c c.in-Choice.a c.in-Choice.b), sym c.get-in-Choice.ensures, sym c.get-in-Choice-2.ensures, sym c.get-in-Choice-3.ensures) c.choice_steps.ensures

pub own_steps-returns-in-Assign : goal.own_steps-returns-in-Assign
own_steps-returns-in-Assign t c = rw (as_form (names_by c.args.self.now) c.args.e.now (form.Assign c.in-Assign.a c.in-Assign.b) _ c.in-Assign.is (of_Assign (names_by c.args.self.now) c.in-Assign.a c.in-Assign.b), sym c.get-in-Assign.ensures, sym c.get-in-Assign-2.ensures) c.assign_steps.ensures

pub own_steps-returns-in-Compound : goal.own_steps-returns-in-Compound
own_steps-returns-in-Compound t c = rw (as_form (names_by c.args.self.now) c.args.e.now (form.Compound c.in-Compound.op c.in-Compound.a c.in-Compound.b c.in-Compound.ty) _ c.in-Compound.is (of_Compound (names_by c.args.self.now) c.in-Compound.op c.in-Compound.a c.in-Compound.b c.in-Compound.ty), sym c.get-in-Compound.ensures, sym c.get-in-Compound-2.ensures) c.compound_steps.ensures

pub own_steps-returns-in-Call : goal.own_steps-returns-in-Call
own_steps-returns-in-Call t c = rw (as_form (names_by c.args.self.now) c.args.e.now (form.Call c.in-Call.callee c.in-Call.args) _ c.in-Call.is (of_Call (names_by c.args.self.now) c.in-Call.callee c.in-Call.args), sym c.list.ensures) c.call_steps.ensures

pub own_steps-returns-in-Library : goal.own_steps-returns-in-Library
own_steps-returns-in-Library t c = rw (as_form (names_by c.args.self.now) c.args.e.now (form.Library c.in-Library.call) _ c.in-Library.is (of_Library (names_by c.args.self.now) c.in-Library.call)) c.library_steps.ensures

pub own_steps-returns-in-Extern : goal.own_steps-returns-in-Extern
own_steps-returns-in-Extern t c = rw (as_form (names_by c.args.self.now) c.args.e.now (form.Extern c.in-Extern.entity c.in-Extern.args) _ c.in-Extern.is (of_Extern (names_by c.args.self.now) c.in-Extern.entity c.in-Extern.args), sym c.list-in-Extern.ensures) c.extern_steps.ensures

pub own_steps-returns-in-Step : goal.own_steps-returns-in-Step
own_steps-returns-in-Step t c = rw (change_steps (names_by c.args.self.now) c.args.on c.args.e.now c.in-Step.operator c.in-Step.field-1 c.in-Step.a c.in-Step.ty c.in-Step.is, sym c.get-in-Step.ensures) c.change_steps.ensures

pub own_steps-returns-in-Paren : goal.own_steps-returns-in-Paren
own_steps-returns-in-Paren t c = rw (paren_steps (names_by c.args.self.now) c.args.on c.args.e.now c.in-Paren.field-0 c.in-Paren.is) (search rules)

pub own_steps-returns-in-Load : goal.own_steps-returns-in-Load
own_steps-returns-in-Load t c = rw (as_form (names_by c.args.self.now) c.args.e.now (form.Load c.in-Load.place) _ c.in-Load.is (of_Load (names_by c.args.self.now) c.in-Load.place), sym c.get-in-Load.ensures) c.load_steps.ensures

pub own_steps-returns-in-Convert : goal.own_steps-returns-in-Convert
own_steps-returns-in-Convert t c = rw (as_form (names_by c.args.self.now) c.args.e.now (form.Convert c.in-Convert.value) _ c.in-Convert.is (of_Convert (names_by c.args.self.now) c.in-Convert.value), sym c.get-in-Convert.ensures) c.convert_steps.ensures

pub own_steps-returns-in-Decay : goal.own_steps-returns-in-Decay
own_steps-returns-in-Decay t c = rw (as_form (names_by c.args.self.now) c.args.e.now (form.Decay c.in-Decay.array) _ c.in-Decay.is (of_Decay (names_by c.args.self.now) c.in-Decay.array), sym c.get-in-Decay.ensures) c.decay_steps.ensures
