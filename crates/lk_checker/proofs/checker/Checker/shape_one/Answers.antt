use Rattle.std.proofs.Common.{◌∙◌, ap, sym, subst}
use Rattle.std.specs.Prelude.{◌||◌}
use Rattle.std.specs.Option.{option_map}
use Rattle.lk_types.specs.Building.{IsTable, IsLonger}
use Rattle.lk_types.specs.Table.{Table}
use Rattle.lk_typed.specs.Meaning.{meaning}
use Rattle.lk_rules.specs.Keeping.{KeepsCodes}
use Rattle.lk_found.proofs.Keepings.{kept_told}
use Rattle.lk_found.proofs.Shaping.{unnamed_rules}
use Rattle.lk_found.specs.Shaped.{form_at, type_in}
use Rattle.lk_found.specs.Shapes.{IsElement, IsGrown, rules_of}
use Rattle.lk_checker.proofs.Shaping.{fields_are}
use Rattle.lk_checker.proofs.States.{grown_sound}
use Rattle.lk_checker.specs.States.{kept_in}
use Rattle.lk_checker.proofs.checker.Checker.shape_one.Goals as goal

pub returns-clause-puts : goal.returns-clause-puts
returns-clause-puts c =
    let old = c.args.self.now in
    let new = c.keep.new.self in
    let tells = c.in_ok-keep.ensures in
    record {
      longer = subst (IsLonger old.types) (sym tells.types) c.made_by.ensures.grown.longer;
      sound = grown_sound old new c.requires.sound (subst IsTable (sym tells.types) c.is_table.ensures) (subst (IsGrown old.types) (sym tells.types) c.made_by.ensures.grown) tells.names;
      outside = tells.outside;
      names = tells.names;
      records = tells.records;
    }

pub returns-clause-made : goal.returns-clause-made
returns-clause-made c = λ span is_in left may.
    let old = c.args.self.now in
    let new = c.keep.new.self in
    let form = form_at old.types c.args.form in
    let tells = c.in_ok-keep.ensures in
    let made = c.in_ok-made.ensures.made span (fields_are old c.requires.sound span.behind is_in) left may in
    let type = ap (λ (table : Table). option_map (meaning table) c.in_ok-made.made.ty) tells.types ∙ made.type in
    record {
      type = type;
      large = c.either.ensures ∙ ap (λ b. c.args.left.is_large || b) made.large;
      element = subst (IsElement span.env.structs c.in_ok-made.made.element) (sym type) made.element;
      keeps = subst (KeepsCodes (kept_in old) form.mark (rules_of form.form span (type_in old.types c.args.left))) (sym tells.kept)
          (kept_told (kept_in old) form.mark c.in_ok-made.made.code (rules_of form.form span (type_in old.types c.args.left)) made.code (unnamed_rules form.form span (type_in old.types c.args.left)));
    }
