use Rattle.std.proofs.Common.{◌<◌, ◌∙◌, All, length, refl, sym, subst}
use Rattle.lk_witness.specs.Searched.{IsSearched}
use Rattle.lk_confirm.proofs.SuspectsThere.{suspects_there}
use Rattle.lk_confirm.proofs.analysis.told.Goals as goal

pub search-requires-clause-there : goal.search-requires-clause-there
search-requires-clause-there c =
    let points = c.args.points.now in
    subst (All (λ n. n < length points.places)) (sym (c.deref.ensures.value ∙ c.in_ok-suspects.ensures)) (suspects_there points c.args.verdicts.now c.requires.there)

pub returns : goal.returns
returns c = record {
  searched = c.in_ok-found.found;
  is_searched = subst (λ ns. IsSearched c.args.files.now c.args.points.now ns c.in_ok-found.found) (c.deref.ensures.value ∙ c.in_ok-suspects.ensures) c.in_ok-found.ensures;
  text_is = refl;
  status = c.status_of-status.ensures;
}
