-- The faults of a source: which code holds at which node, and the least of them.
use Rattle.std.specs.Prelude.{◌++◌, false, Option, Some, None, List, [], ◌∷◌}
use Rattle.lk_tree.specs.declared.statement.Decl.{Decl}
use Rattle.lk_tree.specs.declared.statement.Decl.TheVariants as decl
use Rattle.lk_tree.specs.declared.statement.Unit.{Unit}
use Rattle.lk_typed.specs.Env.{Env, Name, AsOperand}
use Rattle.lk_typed.specs.Expressions.{declarator_found}
use Rattle.lk_typed.specs.Faults.{Breach, Fault, IsLeast}
use Rattle.lk_typed.specs.Library.{predeclared_names}
use Rattle.lk_typed.specs.NodeParts.{parts, externals_in_turn, behind_all}
use Rattle.lk_typed.specs.NodeRules.{breaches, hiding, mark_of}
use Rattle.lk_typed.specs.Nodes.{Node, Placed}
use Rattle.lk_typed.specs.Stands as stands
use Rattle.lk_typed.specs.Stands.{IsIn}
use Rattle.lk_typed.specs.Told.{Named}

-- ---- the environment round a source (C99 6.2.1): what is predeclared, the functions that the source defines, and the names that --externs lists

abbrev name_in : Option Named → List Name
name_in None = []
name_in (Some named) = named.name ∷ []

abbrev pub defined_by : Decl → List Name
defined_by (decl.Function node) = name_in (declarator_found node.declarator).name
defined_by (decl.Declare node) = []
defined_by (decl.Empty node) = []

-- the names of the functions that a source defines
abbrev pub defined_in : List Decl → List Name
defined_in [] = []
defined_in (d ∷ ds) = defined_by d ++ defined_in ds

abbrev pub around : List Name → Unit → Env
around externs unit =
    record {
      outside = record { defined = defined_in unit.externals; externs = externs };
      declared = predeclared_names;
      base = 0;
      tags = [];
      tag_base = 0;
      structs = [];
      result = None;
      role = AsOperand;
      in_size = false;
    }

-- ---- faults, where `externs` are the names that --externs lists

module _ (externs : List Name) (unit : Unit) where
  -- the external declarations, each behind those before it
  abbrev pub externals : List Placed
  externals = externals_in_turn (around externs unit) unit.externals

  -- the environment behind them all
  abbrev pub at_end : Env
  at_end = behind_all (around externs unit) unit.externals

  -- a node stands in the source, in this environment
  pub data IsNode : Env → Node → Type 0 where
    node_of : {env : Env} {node : Node} (external : Placed) → IsIn external externals →
        stands.Stands (parts at_end) (breaches at_end) (hiding at_end) mark_of external.env external.node env
        node → IsNode env node

  -- a fault of the source: a code that holds at a node of it
  pub data IsFaultOf : Fault → Type 0 where
    fault_of : {env : Env} {node : Node} {broken : Breach} → IsNode env node →
        stands.Holds (parts at_end) (breaches at_end) (hiding at_end) mark_of env node broken →
        IsFaultOf (stands.fault_at (mark_of node) broken)

  -- the answer of the checker where it refuses: the least fault
  abbrev pub IsFirstFault : Fault → Type 0
  IsFirstFault f = IsLeast IsFaultOf f
