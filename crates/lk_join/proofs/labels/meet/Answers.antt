use Rattle.std.proofs.Common.{◌∙◌, arith, sym}
use Rattle.std.proofs.lemmas.Bool.{false≢true}
use Rattle.lk_types.proofs.KeptLemmas.{read_got}
use Rattle.lk_join.proofs.Relabelling.{met_already, met_never, met_now}
use Rattle.lk_join.proofs.labels.meet.Goals as goal

pub returns-then-branch : goal.returns-then-branch
returns-then-branch c =
    let labels = c.args.labels.now.items in
    let first = c.args.places.0 in
    let second = c.args.places.1 in
    let at = read_got labels first c.index.result.now (omega (arith, c.requires.first, c.requires.size)) c.index.ensures in
    let bt = read_got labels second c.index-2.result.now (omega (arith, c.requires.second, c.requires.size)) c.index-2.ensures in
    met_now c.args.units.now c.args.structs.now labels c.requires.size first second c.index.result.now c.index-2.result.now at bt c.at.result c.at-2.result c.at.ensures c.at-2.ensures c.requires.known
    (c.in_ok-have_no_difference.ensures.0 c.if-branch.true) c.relabel.new.labels.items c.relabel.ensures

pub returns-else-branch : goal.returns-else-branch
returns-else-branch c =
    let labels = c.args.labels.now.items in
    let first = c.args.places.0 in
    let second = c.args.places.1 in
    let at = read_got labels first c.index.result.now (omega (arith, c.requires.first, c.requires.size)) c.index.ensures in
    let bt = read_got labels second c.index-2.result.now (omega (arith, c.requires.second, c.requires.size)) c.index-2.ensures in
    met_never c.args.units.now c.args.structs.now labels c.requires.size first second c.index.result.now c.index-2.result.now at bt c.at.result c.at-2.result c.at.ensures c.at-2.ensures
    (λ one. false≢true (sym c.if-branch.false ∙ c.in_ok-have_no_difference.ensures.1 one))

pub returns-then-kept-other : goal.returns-then-kept-other
returns-then-kept-other c =
    let labels = c.args.labels.now.items in
    let first = c.args.places.0 in
    let second = c.args.places.1 in
    let at = read_got labels first c.index.result.now (omega (arith, c.requires.first, c.requires.size)) c.index.ensures in
    let bt = read_got labels second c.index-2.result.now (omega (arith, c.requires.second, c.requires.size)) c.index-2.ensures in
    met_already c.args.units.now c.args.structs.now labels c.requires.size first second c.index.result.now c.index-2.result.now at bt c.if-kept-other.true
