use Rattle.std.proofs.Common.{sym, subst}
use Rattle.lk_tree.specs.declared.statement.Decl.TheVariants as decl
use Rattle.lk_elaborate.proofs.Externals.{declaration_made, definition_made, empty_made}
use Rattle.lk_elaborate.proofs.Outside.{goes_outside, outside_locals, outside_same, outside_then}
use Rattle.lk_elaborate.specs.Externals.{MakesExternal}
use Rattle.lk_elaborate.specs.Outlining.{HasNoLocals, MakesDefinition}
use Rattle.lk_elaborate.specs.Outside.{GoesOutside}
use Rattle.lk_elaborate.proofs.unit.external.Goals as goal

pub returns-in_ok-definition-in-Function-clause-makes : goal.returns-in_ok-definition-in-Function-clause-makes
returns-in_ok-definition-in-Function-clause-makes c =
    let old = c.args.walk.now in
    let node = c.in-Function.node in
    let new = c.definition.new.walk in
    let mid = c.begin_locals.new.walk in
    subst (MakesExternal old new) (sym c.in-Function.is)
    (subst (λ mid. HasNoLocals mid → MakesDefinition mid new node → MakesExternal old new (decl.Function node)) (sym c.begin_locals.ensures.same)
    (definition_made old mid.locals new node) c.begin_locals.ensures.none c.in_ok-definition-in-Function.ensures.makes)

pub returns-in_ok-definition-in-Function-clause-goes : goal.returns-in_ok-definition-in-Function-clause-goes
returns-in_ok-definition-in-Function-clause-goes c =
    let old = c.args.walk.now in
    let mid = c.begin_locals.new.walk in
    outside_then old mid c.definition.new.walk (subst (GoesOutside old) (sym c.begin_locals.ensures.same) (outside_locals old mid.locals)) c.in_ok-definition-in-Function.ensures.goes

pub returns-in_ok-file_declaration-in-Declare-clause-makes : goal.returns-in_ok-file_declaration-in-Declare-clause-makes
returns-in_ok-file_declaration-in-Declare-clause-makes c =
    subst (MakesExternal c.args.walk.now c.file_declaration.new.walk) (sym c.in-Declare.is)
    (declaration_made c.args.walk.now c.file_declaration.new.walk c.in-Declare.node c.in_ok-file_declaration-in-Declare.ensures.puts)

pub returns-in_ok-file_declaration-in-Declare-clause-goes : goal.returns-in_ok-file_declaration-in-Declare-clause-goes
returns-in_ok-file_declaration-in-Declare-clause-goes c = goes_outside c.args.walk.now c.file_declaration.new.walk c.in_ok-file_declaration-in-Declare.ensures.goes_on

pub returns-in-Empty-clause-makes : goal.returns-in-Empty-clause-makes
returns-in-Empty-clause-makes c = subst (MakesExternal c.args.walk.now c.args.walk.now) (sym c.in-Empty.is) (empty_made c.args.walk.now c.in-Empty.field-0)

pub returns-in-Empty-clause-goes : goal.returns-in-Empty-clause-goes
returns-in-Empty-clause-goes c = outside_same c.args.walk.now
