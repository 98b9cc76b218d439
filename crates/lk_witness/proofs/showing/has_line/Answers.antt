use Rattle.std.proofs.Common.{◌∙◌, ap}
use Rattle.std.specs.List.{list_any}
use Rattle.std.specs.Str.{bytes_eq}
use Rattle.lk_witness.proofs.Lines.{any_of}
use Rattle.lk_witness.proofs.showing.has_line.Goals as goal

pub returns : goal.returns
returns c =
    let line = c.args.line.now in
    c.is_among.ensures ∙ ap (list_any (λ part. bytes_eq part.now line)) c.deref.ensures.value ∙ any_of c.in_ok-lines.lines.items line
    ∙ ap (list_any (λ part. bytes_eq part line)) c.in_ok-lines.ensures
