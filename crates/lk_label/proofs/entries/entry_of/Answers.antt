use Rattle.std.proofs.Common.{◌∙◌, ap}
use Rattle.lk_facts.specs.LabelRules.{form_of}
use Rattle.lk_types.specs.Objects.{is_mutex}
use Rattle.lk_types.specs.Table.{Table, type_at}
use Rattle.lk_label.proofs.entries.entry_of.Goals as goal

pub returns : goal.returns
returns c =
    let origin = c.requires.origins c.args.name.now in
    record {
      root = c.number_of.ensures;
      origin = (λ has. origin.0 (c.has.ensures.0 has), λ is. c.has.ensures.1 (origin.1 is));
      lock = c.is_mutex.ensures ∙ (ap (λ t. is_mutex (type_at c.types-types.result.now t)) c.node_type.ensures.value ∙ ap (λ (table : Table). is_mutex (form_of table c.args.name.now.node)) c.types-types.ensures);
      global = c.is_global_holder.ensures;
    }
