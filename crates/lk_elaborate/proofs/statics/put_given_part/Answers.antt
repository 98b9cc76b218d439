use Rattle.std.proofs.Common.{◌∙◌, [], ◌∷◌, refl, sym, ap}
use Rattle.std.proofs.lemmas.Result.{on_ok_weaker}
use Rattle.lk_elaborator.proofs.Growing.{grows_same}
use Rattle.lk_elab_init.proofs.Giving.{both_ok}
use Rattle.lk_elaborate.proofs.MakingStatics.{bytes_made, ok_always, value_made, word_made}
use Rattle.lk_elaborate.proofs.Telling.{bytes_in, kind_of}
use Rattle.lk_elaborate.proofs.statics.put_given_part.Goals as goal

pub returns-in-Value-clause-parts : goal.returns-in-Value-clause-parts
returns-in-Value-clause-parts c = on_ok_weaker c.put_value.result (λ h. (
  h.1.0 ∷ [],
  h.1.1,
  value_made c.args.walk.now c.put_value.new.walk c.args.given.now h.0 c.in-Value.e h.1.0 c.in-Value.is h.1.2,
)) (both_ok _ _ c.put_value.result c.put_value.ensures.grows c.put_value.ensures.part)

pub returns-in-Bytes-clause-parts : goal.returns-in-Bytes-clause-parts
returns-in-Bytes-clause-parts c = on_ok_weaker c.put_text.result (λ h. (
  h.0,
  h.1,
  bytes_made c.args.walk.now c.args.walk.now c.args.given.now refl c.list.result.now h.0 (ap kind_of c.in-Bytes.is) (ap (bytes_in []) c.in-Bytes.is ∙ sym c.list.ensures) h.2,
)) c.put_text.ensures

pub returns-in-Bytes-clause-grows : goal.returns-in-Bytes-clause-grows
returns-in-Bytes-clause-grows c = ok_always c.put_text.result _ (grows_same c.args.walk.now)

pub returns-in-Word-clause-parts : goal.returns-in-Word-clause-parts
returns-in-Word-clause-parts c = on_ok_weaker c.put_word.result (λ h. (
  _ ∷ [],
  h,
  word_made c.args.walk.now c.args.walk.now c.args.given.now refl _ (ap kind_of c.in-Word.is) refl,
)) c.put_word.ensures

pub returns-in-Word-clause-grows : goal.returns-in-Word-clause-grows
returns-in-Word-clause-grows c = ok_always c.put_word.result _ (grows_same c.args.walk.now)
