use Rattle.std.proofs.Common.{◌≡◌, Some, slice_get, refl, subst}
use Rattle.lk_types.specs.Sizes.{form_size}
use Rattle.lk_types.specs.Table.{Table}
use Rattle.lk_types.specs.declared.facts.TypeFacts.{TypeFacts}
use Rattle.lk_types.proofs.AddLemmas.{IsAddable, added_found, added_fresh, entry_at_key}
use Rattle.lk_types.proofs.KeptLemmas.{form_got}
use Rattle.lk_types.proofs.SizeLemmas.{fits_got}
use Rattle.lk_types.proofs.table.TypeTable.add.Goals as goal

pub push-requires : goal.push-requires
push-requires c =
    let inside = c.self.inside in
    λ place kept at. c.requires.new place (subst (λ (table : Table). slice_get table.types place ≡ Some c.args.form) c.self.view_is
    (form_got inside.types inside.structs.items inside.parts place c.args.form kept at))

pub push-requires-in-None-2 : goal.push-requires-in-None-2
push-requires-in-None-2 c =
    let inside = c.self.inside in
    λ place kept at. c.requires.new place (subst (λ (table : Table). slice_get table.types place ≡ Some c.args.form) c.self.view_is
    (form_got inside.types inside.structs.items inside.parts place c.args.form kept at))

pub invariant_of-self-in_ok-push-in-Some : goal.invariant_of-self-in_ok-push-in-Some
invariant_of-self-in_ok-push-in-Some c =
    let inside = c.self.inside in
    let fact : TypeFacts = record { size = c.unwrap-size.result; holds_struct = c.form_holds_struct-holds_struct.result; least = c.at.result.1.now } in
    let addable : IsAddable c.args.self.now c.args.form fact c.in_ok-key.key = record {
      absent = c.requires.new;
      form = c.requires.form;
      small = c.requires.small;
      room = c.requires.room;
      key_is = c.in_ok-key.ensures;
      size = fits_got (form_size c.args.self.now c.args.form) c.unwrap-size.result c.form_size.result c.unwrap-size.ensures c.form_size.ensures;
      holding = c.form_holds_struct-holds_struct.ensures;
    } in
    let at = entry_at_key inside.classes c.in_ok-key.key c.at.result.0.now c.in-Some.ensures.0 c.at.result.1.now c.in-Some.place c.in-Some.ensures.1 c.at.ensures in
    added_found inside.types inside.classes inside.structs.items inside.parts c.self.invariant c.args.form fact c.in_ok-key.key c.len-count.ensures.apart c.args.self.now c.self.view_is addable c.in-Some.place at
    c.push.new.self c.in_ok-push-in-Some.ensures.ok

pub invariant_of-self-in_ok-push-in-Some-2 : goal.invariant_of-self-in_ok-push-in-Some-2
invariant_of-self-in_ok-push-in-Some-2 c =
    let inside = c.self.inside in
    let fact : TypeFacts = record { size = c.unwrap-size.result; holds_struct = c.form_holds_struct-holds_struct.result; least = c.at.result.1.now } in
    let addable : IsAddable c.args.self.now c.args.form fact c.in_ok-key.key = record {
      absent = c.requires.new;
      form = c.requires.form;
      small = c.requires.small;
      room = c.requires.room;
      key_is = c.in_ok-key.ensures;
      size = fits_got (form_size c.args.self.now c.args.form) c.unwrap-size.result c.form_size.result c.unwrap-size.ensures c.form_size.ensures;
      holding = c.form_holds_struct-holds_struct.ensures;
    } in
    let at = entry_at_key inside.classes c.in_ok-key.key c.at.result.0.now c.in-Some.ensures.0 c.at.result.1.now c.in-Some.place c.in-Some.ensures.1 c.at.ensures in
    added_found inside.types inside.classes inside.structs.items inside.parts c.self.invariant c.args.form fact c.in_ok-key.key c.len-count.ensures.apart c.args.self.now c.self.view_is addable c.in-Some.place at
    c.push.new.self c.in_ok-push-in-Some.ensures.ok

pub invariant_of-self-in-Ok : goal.invariant_of-self-in-Ok
invariant_of-self-in-Ok c =
    let inside = c.self.inside in
    let fact : TypeFacts = record { size = c.unwrap-size.result; holds_struct = c.form_holds_struct-holds_struct.result; least = c.len.result } in
    let addable : IsAddable c.args.self.now c.args.form fact c.in_ok-key.key = record {
      absent = c.requires.new;
      form = c.requires.form;
      small = c.requires.small;
      room = c.requires.room;
      key_is = c.in_ok-key.ensures;
      size = fits_got (form_size c.args.self.now c.args.form) c.unwrap-size.result c.form_size.result c.unwrap-size.ensures c.form_size.ensures;
      holding = c.form_holds_struct-holds_struct.ensures;
    } in
    added_fresh inside.types inside.classes inside.structs.items inside.parts c.self.invariant c.args.form fact c.in_ok-key.key c.len-count.ensures.apart c.args.self.now c.self.view_is addable c.in-None.ensures c.len.result c.len.ensures.value refl
    c.push-in-None-2.new.self c.in-Ok.ensures.ok c.push-in-None.new.self c.in_ok-push-in-None.ensures.ok
