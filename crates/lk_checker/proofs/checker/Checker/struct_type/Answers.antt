use Rattle.std.proofs.Common.{refl}
use Rattle.std.proofs.lemmas.Option.{slice_get_within}
use Rattle.lk_typed.proofs.Meanings.{meaning_by}
use Rattle.lk_types.specs.declared.c_type.CType.TheVariants as forms
use Rattle.lk_checker.proofs.States.{grown_sound, put_grown}
use Rattle.lk_checker.proofs.checker.Checker.struct_type.Goals as goal

pub returns-clause-means : goal.returns-clause-means
returns-clause-means c =
    let new = c.put.new.self in
    let form = forms.Struct c.args.s in
    meaning_by new c.is_table-2.ensures c.in_ok-t.t form (slice_get_within new.types c.in_ok-t.t form c.in_ok-t.ensures.known) c.in_ok-t.ensures.known

pub returns-clause-grows : goal.returns-clause-grows
returns-clause-grows c =
    let old = c.args.self.now in
    let new = record old { types = c.put.new.self } in
    record {
      longer = c.put.ensures.longer;
      sound = grown_sound old new c.requires.sound c.is_table-2.ensures
          (put_grown old.types new.types (forms.Struct c.args.s) c.in_ok-t.t c.is_table.ensures c.is_table-2.ensures c.put.ensures.longer c.in_ok-t.ensures.put tt) refl;
      outside = refl;
      kept = refl;
      records = refl;
    }
