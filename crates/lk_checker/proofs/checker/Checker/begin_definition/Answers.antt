use Rattle.std.specs.Option.{option_copied}
use Rattle.lk_typed.specs.Env.{extend}
use Rattle.lk_typed.specs.Told.{struct_meant_by}
use Rattle.std.specs.List.{slice_get}
use Rattle.lk_found.proofs.Defines.{not_yet_begun}
use Rattle.lk_found.specs.Begun.{definition_begun}
use Rattle.lk_checker.proofs.Completing.{begun_meant}
use Rattle.lk_checker.proofs.Tags.{tag_still}
use Rattle.lk_checker.proofs.checker.Checker.begin_definition.Goals as goal

pub returns-clause-behind : goal.returns-clause-behind
returns-clause-behind c = λ env is.
    let m = struct_meant_by env (option_copied c.args.tag) in
    let means = c.in_ok-s.ensures.means env is in
    begun_meant c.begin_members.new.self env m c.in_ok-s.s means.number (c.begin_members.ensures.behind (extend env m.additions) means.behind)

pub returns-clause-fresh : goal.returns-clause-fresh
returns-clause-fresh c = λ begun.
    let s = c.in_ok-s.s in
    not_yet_begun (slice_get c.defined_struct.new.self.names.structs s) c.in_ok-s.ensures.may_begin (c.in_ok-s.ensures.begun s begun)

pub returns-clause-tag : goal.returns-clause-tag
returns-clause-tag c = λ env is.
    tag_still c.args.self.now c.defined_struct.new.self c.begin_members.new.self env (definition_begun env (option_copied c.args.tag)) c.begin_members.ensures.grows.records
    (c.in_ok-s.ensures.tag env is)
