use Rattle.std.proofs.Common.{◌∙◌, length, sym, ap}
use Rattle.lk_typed.specs.Env.{members_of}
use Rattle.lk_typed.specs.InitialiserRules as spec
use Rattle.lk_typed.specs.Meaning.{meaning, tree_of}
use Rattle.lk_typed.specs.MemberRules.{fields_in, types_in}
use Rattle.lk_check_decl.specs.Breaches.{told}
use Rattle.lk_check_decl.specs.Initialisers.{braces_of}
use Rattle.lk_check_decl.proofs.initialisers.listed_code.Goals as goal

pub returns-in-Struct : goal.returns-in-Struct
returns-in-Struct c = λ env same.
    let table = c.args.types.now in
    let tree = c.form.ensures.tree ∙ ap (tree_of (meaning table)) c.in-Struct.is in
    c.count_code-in-Struct.ensures ∙
    ap (λ n. told (spec.count_rules c.args.braces.entries n)) (c.field_count.ensures table ∙ ap (λ structs. length (types_in (members_of structs c.in-Struct.s))) (sym same)) ∙
    ap (λ tree. told (spec.by_list (fields_in env) (braces_of c.args.braces) tree)) (sym tree)
