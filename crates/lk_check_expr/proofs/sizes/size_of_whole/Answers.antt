use Rattle.std.proofs.Common.{◌∙◌, ap, sym, subst}
use Rattle.std.specs.Prelude.{◌<◌, ◌^◌, ◌&&◌, IfSome, not}
use Rattle.lk_base.specs.declared.code.Code.TheVariants.{Incomplete, SizeofStruct}
use Rattle.lk_base.specs.declared.kind.Kind.TheVariants.{ULong}
use Rattle.lk_typed.specs.Codes.{least_code}
use Rattle.lk_typed.specs.Meaning.{meaning}
use Rattle.lk_typed.specs.Places.{sizeof_codes}
use Rattle.lk_typed.specs.Sizes.{is_complete, holds_struct_or_lock, bytes_in, constant_of_bytes}
use Rattle.lk_typed.specs.Typing.{if_so, integer}
use Rattle.lk_typed.specs.Typings.{structs_in, IsTyping}
use Rattle.lk_typed.proofs.Verdicts.{both_least, unless_verdict}
use Rattle.lk_check_expr.proofs.Bytes.{bytes_below}
use Rattle.lk_check_expr.proofs.sizes.size_of_whole.Goals as goal

pub constant_of-constant-requires : goal.constant_of-constant-requires
constant_of-constant-requires c =
    subst (λ bytes. IfSome bytes (λ n. n < 2 ^ 127)) (sym c.bytes_in-bytes.ensures) (bytes_below (meaning c.args.types.now c.args.t) (c.requires.few c.args.t c.requires.known))

pub returns : goal.returns
returns c =
    let table = c.args.types.now in
    let structs = structs_in table c.args.structs.now in
    let t = meaning table c.args.t in
    let first = if_so (not (is_complete structs t)) Incomplete in
    let second = if_so (holds_struct_or_lock t && not c.args.in_size) SizeofStruct in
    let incomplete = c.code_if-incomplete.ensures ∙ ap (λ b. least_code (if_so (not b) Incomplete)) c.is_complete-complete.ensures in
    let of_struct = c.code_if-of_struct.ensures ∙ ap (λ b. least_code (if_so b SizeofStruct)) c.is_uncounted-uncounted.ensures in
    let constant = c.constant_of-constant.ensures ∙ ap constant_of_bytes c.bytes_in-bytes.ensures in
    let typed = subst (λ constant. IsTyping table c.integer-typed.result (integer ULong constant)) constant (c.integer-typed.ensures table c.requires.ready) in
    unless_verdict table c.integer-typed.result (sizeof_codes structs c.args.in_size t) (integer ULong (constant_of_bytes (bytes_in t))) c.unless.ensures
    (both_least first second incomplete of_struct c.lesser-code.ensures) typed
