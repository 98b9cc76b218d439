-- How the state goes on from one external declaration to the next.
use Rattle.std.proofs.Common.{◌∙◌, ◌++◌, List, refl, ap, append_assoc}
use Rattle.lk_tree.specs.declared.statement.Unit.{Unit}
use Rattle.lk_types.specs.declared.c_type.CType.{CType}
use Rattle.lk_types.proofs.GrowLemmas.{longer_same, longer_then}
use Rattle.lk_typed.specs.Elaborated.{InPlace}
use Rattle.lk_typed.specs.Env.{Env, Name}
use Rattle.lk_typed.specs.Nodes.{Node, Placed}
use Rattle.lk_typed.specs.declared.entity.Entity.{Entity}
use Rattle.lk_elaborator.specs.Leading.{GoesOn}
use Rattle.lk_elaborator.specs.Telling.{IsTold, IsTrueOf}
use Rattle.lk_elaborator.specs.declared.elaborator.Elaborator.{Elaborator}
use Rattle.lk_elaborator.specs.declared.locals.Locals.{Locals}
use Rattle.lk_elab_init.specs.Source.{IsToldSource}
use Rattle.lk_elaborate.specs.Making.{StandIn}
use Rattle.lk_elaborate.specs.Outside.{GoesOutside, LeadsOutside}
use Rattle.lk_elaborate.proofs.Carried.{source_stays}

pub outside_same : (walk : Elaborator) → GoesOutside walk walk
outside_same walk = record {
  longer = longer_same walk.types;
  members = refl;
  ready = λ ready. ready;
  entities = λ n e is. is;
  records = refl;
  names = refl;
  outside = refl;
}

pub outside_then : (a b c : Elaborator) → GoesOutside a b → GoesOutside b c → GoesOutside a c
outside_then a b c first second = record {
  longer = longer_then a.types b.types c.types first.longer second.longer;
  members = second.members ∙ first.members;
  ready = λ ready. second.ready (first.ready ready);
  entities = λ n e is. second.entities n e (first.entities n e is);
  records = second.records ∙ first.records;
  names = second.names ∙ first.names;
  outside = second.outside ∙ first.outside;
}

pub goes_outside : (old new : Elaborator) → GoesOn old new → GoesOutside old new
goes_outside old new on = record {
  longer = on.longer;
  members = on.members;
  ready = on.ready;
  entities = on.entities;
  records = on.records;
  names = on.names;
  outside = on.outside;
}

pub outside_back : (old new : Elaborator) (types : List CType) (entities : List Entity) → GoesOutside old new → LeadsOutside new types entities → LeadsOutside old types entities
outside_back old new types entities on leads = record {
  longer = (on.longer.types.0 ++ leads.longer.0, leads.longer.1 ∙ (ap (λ ts. ts ++ leads.longer.0) on.longer.types.1 ∙ append_assoc old.types.types on.longer.types.0 leads.longer.0));
  entities = λ n e is. leads.entities n e (on.entities n e is);
}

-- the locals may be others
pub outside_locals : (walk : Elaborator) (locals : Locals) → GoesOutside walk (record walk { locals = locals })
outside_locals walk locals = record {
  longer = longer_same walk.types;
  members = refl;
  ready = λ ready. ready;
  entities = λ n e is. is;
  records = refl;
  names = refl;
  outside = refl;
}

-- what is known of a source doesn't speak of locals
module _ (walk : Elaborator) (locals : Locals) where
  abbrev other : Elaborator
  other = record walk { locals = locals }

  true_with : (p : InPlace) → IsTrueOf walk p → IsTrueOf other p
  true_with p is = record { ready = is.ready; found = is.found; meant = is.meant; structs = is.structs; defined = is.defined; externs = is.externs }

  told_with : (at_end env : Env) (node : Node) → IsTold at_end walk env node → IsTold at_end other env node
  told_with at_end env node is = record {
    ready = is.ready;
    expressions = λ env' e stands. true_with (env', e) (is.expressions env' e stands);
    names = is.names;
  }

  pub source_with : (externs : List Name) (unit : Unit) → IsToldSource externs unit walk → IsToldSource externs unit other
  source_with externs unit is = record {
    ready = is.ready;
    told = λ env node stands. told_with _ env node (is.told env node stands);
    initialisers = is.initialisers;
    declared = is.declared;
    declared_type = is.declared_type;
    defined_type = is.defined_type;
    uses = is.uses;
    taken = is.taken;
    structs = is.structs;
    listed = is.listed;
    fields = is.fields;
    tags = is.tags;
    settled = is.settled;
  }

-- what is known of a source is known still
pub source_outside : (old new : Elaborator) → GoesOutside old new → (externs : List Name) (unit : Unit) → IsToldSource externs unit old → IsToldSource externs unit new
source_outside old new on externs unit is =
    let same : Elaborator = record old { locals = new.locals } in
    let goes : GoesOn same new = record {
      longer = on.longer;
      members = on.members;
      ready = on.ready;
      entities = on.entities;
      locals = λ n l is. is;
      records = on.records;
      names = on.names;
      outside = on.outside;
    } in
    source_stays same new goes externs unit (source_with old new.locals externs unit is)

-- nodes that stand in a source stand there still
pub stand_outside : (old new : Elaborator) → GoesOutside old new → (placed : List Placed) → StandIn old placed → StandIn new placed
stand_outside old new on placed is = record { externs = is.externs; unit = is.unit; told = source_outside old new on is.externs is.unit is.told; each = is.each }
