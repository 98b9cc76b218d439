use Rattle.std.proofs.Common.{◌<◌, ◌∙◌, Contains, length, ap, subst, sym}
use Rattle.lk_rise.specs.Tables.{setting}
use Rattle.lk_rise.specs.declared.correlations.Correlation.{Correlation}
use Rattle.lk_rise.proofs.PassLemmas.{RisesBelow, item_within, links_read, passes_all, settles}
use Rattle.lk_rise.proofs.rising.Rising.pass_item.Goals as goal

pub bounds-into-item : goal.bounds-into-item
bounds-into-item c = subst (λ n. c.args.item.function < n) (sym c.requires.functions) (item_within (setting c.args.self.now) c.args.table.now c.args.item c.requires.sound c.requires.there)

pub pass_each_link-requires-clause-links : goal.pass_each_link-requires-clause-links
pass_each_link-requires-clause-links c =
    let s = setting c.args.self.now in
    let item = c.args.item in
    let within = subst (λ n. item.function < n) (sym c.requires.functions) (item_within s c.args.table.now item c.requires.sound c.requires.there) in
    let is = links_read c.args.into.now item.function c.list-links.result.now c.index-into-item.result within c.index-into-item.is c.list-links.ensures in
    λ link there. (c.requires.into.each item.function link (subst (λ xs. Contains xs link) is there)).is

pub pass_each_link-requires-clause-below : goal.pass_each_link-requires-clause-below
pass_each_link-requires-clause-below c =
    let s = setting c.args.self.now in
    let item = c.args.item in
    let within = subst (λ n. item.function < n) (sym c.requires.functions) (item_within s c.args.table.now item c.requires.sound c.requires.there) in
    let is = links_read c.args.into.now item.function c.list-links.result.now c.index-into-item.result within c.index-into-item.is c.list-links.ensures in
    λ link there. ap (λ (i : Correlation). i.function) c.in_ok-passage.ensures.1.item ∙ sym (c.requires.into.each item.function link (subst (λ xs. Contains xs link) is there)).into

pub returns-clause-steps : goal.returns-clause-steps
returns-clause-steps c =
    let s = setting c.args.self.now in
    let item = c.args.item in
    let locks = c.in_ok-passage.passage.locks in
    let within = subst (λ n. item.function < n) (sym c.requires.functions) (item_within s c.args.table.now item c.requires.sound c.requires.there) in
    let is = links_read c.args.into.now item.function c.list-links.result.now c.index-into-item.result within c.index-into-item.is c.list-links.ensures in
    passes_all s c.args.into.now item c.args.table.now c.pass_each_link.new.table c.args.again.now.items c.pass_each_link.new.again.items locks
    (subst (λ links. RisesBelow s links item locks (length links) c.args.table.now c.pass_each_link.new.table c.args.again.now.items c.pass_each_link.new.again.items) is
    (subst (λ (i : Correlation). RisesBelow s c.list-links.result.now i locks (length c.list-links.result.now) c.args.table.now c.pass_each_link.new.table c.args.again.now.items c.pass_each_link.new.again.items)
    c.in_ok-passage.ensures.1.item c.in_ok-pass_each_link.ensures))

pub returns-clause-settled : goal.returns-clause-settled
returns-clause-settled c =
    let s = setting c.args.self.now in
    let item = c.args.item in
    let locks = c.in_ok-passage.passage.locks in
    let within = subst (λ n. item.function < n) (sym c.requires.functions) (item_within s c.args.table.now item c.requires.sound c.requires.there) in
    let is = links_read c.args.into.now item.function c.list-links.result.now c.index-into-item.result within c.index-into-item.is c.list-links.ensures in
    settles s c.args.into.now item c.args.table.now c.pass_each_link.new.table c.args.again.now.items c.pass_each_link.new.again.items locks c.in_ok-passage.ensures.0
    (subst (λ links. RisesBelow s links item locks (length links) c.args.table.now c.pass_each_link.new.table c.args.again.now.items c.pass_each_link.new.again.items) is
    (subst (λ (i : Correlation). RisesBelow s c.list-links.result.now i locks (length c.list-links.result.now) c.args.table.now c.pass_each_link.new.table c.args.again.now.items c.pass_each_link.new.again.items)
    c.in_ok-passage.ensures.1.item c.in_ok-pass_each_link.ensures))
