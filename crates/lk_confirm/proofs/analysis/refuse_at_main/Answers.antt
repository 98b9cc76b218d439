use Rattle.std.proofs.Common.{◌∙◌, ◌<◌, length, refl, sym, subst}
use Rattle.std.proofs.lemmas.Option.{same_Some}
use Rattle.lk_base.specs.declared.refusal.Refusal.{Refusal}
use Rattle.lk_base.specs.declared.spot.Spot.{Spot}
use Rattle.lk_confirm.proofs.AnswerLemmas.{told_in}
use Rattle.lk_confirm.proofs.analysis.refuse_at_main.Goals as goal

pub refused_in-requires : goal.refused_in-requires
refused_in-requires c =
    let same = same_Some c.requires.0 c.unwrap-spot.result (sym c.requires.1 ∙ (sym c.main_spot.ensures ∙ c.unwrap-spot.ensures)) in
    subst (λ (spot : Spot). spot.file < length c.args.files.now) same c.requires.2

pub returns : goal.returns
returns c =
    let refusal : Refusal = record { code = c.args.code; spot = c.unwrap-spot.result; name = c.empty-name.result } in (
      refusal,
      record { is_code = refl; place = sym c.main_spot.ensures ∙ c.unwrap-spot.ensures; no_name = c.empty-name.ensures },
      told_in c.args.files.now refusal c.refused_in.result c.in_ok-answer.answer c.refused_in.ensures c.in_ok-answer.ensures,
    )
