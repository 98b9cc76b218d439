use Rattle.std.proofs.Common.{refl}
use Rattle.std.specs.Prelude.{option_map}
use Rattle.lk_tree.specs.declared.expression.DeclaratorForm.TheOpen.{ExprForm-F}
use Rattle.lk_typed.specs.Faults.{breach}
use Rattle.lk_typed.specs.Typing.{AtText}
use Rattle.lk_found.specs.Judging.{code_in}
use Rattle.lk_found.specs.declared.found.Found.{Found}
use Rattle.lk_found.specs.declared.ruled.Ruled.{Ruled}
use Rattle.lk_found.proofs.Settling.{told_plainly}
use Rattle.lk_checker.specs.declared.checker.Checker.{Checker}
use Rattle.lk_checker.proofs.Growing.{sound_longer}
use Rattle.lk_checker.proofs.Settling.{settled, text_settles}
use Rattle.lk_checker.proofs.checker.Checker.settle_text.Goals as goal

pub returns : goal.returns
returns c = λ env behind plain.
    let old = c.args.self.now in
    let middle : Checker = record old { types = c.text.new.types } in
    let verdict = c.in_ok-verdict.verdict in
    let ruled : Ruled = record { verdict = verdict; address = c.whole-address.result } in
    let look = c.text-look.result in
    let n = c.args.e.now.ordinal in
    let bytes = c.args.bytes.now in
    let sound = sound_longer old middle c.requires c.text.ensures.longer c.text.ensures.ready c.text.ensures.few c.text.ensures.members refl in
    let found : Found = record { typing = c.in_ok-typing.typing; address = c.whole-address.result; look = look } in
    text_settles old c.text.new.types c.tell.new.self c.args.e.now env behind (ExprForm-F.Text bytes) found c.text.ensures.longer
    (settled middle c.tell.new.self c.args.e.now env behind (ExprForm-F.Text bytes) ruled look c.at_expr-at.result (option_map breach (code_in verdict)) found sound c.at_expr-at.ensures
    c.in_ok-typing.ensures.tells (told_plainly c.args.e.now plain (code_in verdict)) c.in_ok-typing.ensures.typed refl refl
    (record { verdict = c.in_ok-verdict.ensures.value n; address = c.whole-address.ensures (AtText n) }) (c.text-look.ensures env))
