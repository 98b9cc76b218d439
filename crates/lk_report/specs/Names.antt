-- How places of sources, locations and lock places are written.
use Rattle.std.specs.Prelude.{◌≡◌, ◌<◌, ℕ, List, [], ◌∷◌, ◌++◌, Option, None, Some, All, length, codes, slice_get, unwrap_or}
use Rattle.std.specs.Option.{option_and_then, option_map_or}
use Rattle.std.specs.Fmt.{decimal}
use Rattle.lk_base.specs.declared.spot.Spot.{Spot}
use Rattle.lk_facts.specs.Program.{place_at, root_at, name_of}
use Rattle.lk_facts.specs.declared.place.Place.{Place}
use Rattle.lk_facts.specs.declared.program.Program.{Program}
use Rattle.lk_facts.specs.declared.root.Root.{Root}
use Rattle.lk_facts.specs.declared.root.RootKind.{RootKind}
use Rattle.lk_facts.specs.declared.root.RootKind.TheVariants as kind
use Rattle.lk_types.specs.Nodes.{IsNode, node_of}
use Rattle.lk_types.specs.Table.{Table, type_at, members_of}
use Rattle.lk_types.specs.declared.c_type.CType.{CType}
use Rattle.lk_types.specs.declared.c_type.CType.TheVariants.{Void, Int, ThreadId, Mutex, Cond, Pointer, Array, Struct, Function, Opaque}
use Rattle.lk_types.specs.declared.member.StructMember.{StructMember}
use Rattle.lk_types.specs.declared.node.Sel.{Sel}
use Rattle.lk_types.specs.declared.node.Sel.TheVariants.{Target, Element, Field, Part}

-- FILE:LINE:COL, of the files by their numbers
abbrev pub spot_text : List (List ℕ) → Spot → List ℕ
spot_text files spot =
    unwrap_or (slice_get files spot.file) [] ++
    (codes ":" ++ (decimal spot.line ++ (codes ":" ++ decimal spot.col)))

-- the type of the elements, where the form is an array
abbrev pub element_type : CType → Option ℕ
element_type Void = None
element_type (Int kind) = None
element_type ThreadId = None
element_type Mutex = None
element_type Cond = None
element_type (Pointer t) = None
element_type (Array t n) = Some t
element_type (Struct s) = None
element_type (Function result params dots) = None
element_type (Opaque n) = None

-- the member with this number, where the form is a struct
abbrev pub member_of : Table → CType → ℕ → Option StructMember
member_of table Void k = None
member_of table (Int kind) k = None
member_of table ThreadId k = None
member_of table Mutex k = None
member_of table Cond k = None
member_of table (Pointer t) k = None
member_of table (Array t n) k = None
member_of table (Struct s) k = slice_get (members_of table s) k
member_of table (Function result params dots) k = None
member_of table (Opaque n) k = None

-- what follows an object's name for its part: `.member` for a member, `[]` for all elements of an array
unfoldable pub path_text : Table → ℕ → List Sel → List ℕ
path_text table t [] = []
path_text table t (Element ∷ path) =
    codes "[]" ++ option_map_or (λ e. path_text table e path) (element_type (type_at table t)) []
path_text table t (Field k ∷ path) =
    option_map_or (λ member. codes "." ++ (member.name ++ path_text table member.ty path))
    (member_of table (type_at table t) k) []
path_text table t (Target ∷ path) = []
path_text table t (Part u ∷ path) = []

-- the name of the function that a root belongs to, and a point
abbrev pub owner_text : Program → Root → List ℕ
owner_text program root =
    option_map_or (λ name. name ++ codes ".") (option_and_then (name_of program) root.function) []

module _ (files : List (List ℕ)) (program : Program) where
  -- An object has the name that is declared, in a function behind the function's; what is allocated has
  -- the place where that is done.
  abbrev pub object_text : RootKind → Root → List ℕ
  object_text kind.Global root = root.name
  object_text kind.Static root = owner_text program root ++ root.name
  object_text kind.Local root = owner_text program root ++ root.name
  object_text (kind.Heap one) root = codes "heap@" ++ spot_text files root.spot
  object_text kind.Text root = root.name
  object_text kind.Argv root = codes "(argv)"
  object_text kind.Args root = codes "(args)"
  object_text kind.Function root = root.name

  -- the text of a part of an object
  abbrev pub part_text : Place → Root → List ℕ
  part_text place root =
      object_text root.kind root ++ path_text program.types root.ty (node_of program.types place.node).path

  abbrev pub text_at : Place → List ℕ
  text_at place = option_map_or (part_text place) (root_at program place.root) []

  -- the text of the location or lock place n
  abbrev pub place_text : ℕ → List ℕ
  place_text n = option_map_or text_at (place_at program n) []

  -- its place in a source, which is that of its object
  abbrev pub location_spot_text : ℕ → List ℕ
  location_spot_text n =
      option_map_or (λ place. option_map_or (λ root. spot_text files root.spot) (root_at program place.root) []) (place_at program n) []

  -- the files of all places in sources are there, and locations and lock places are nodes
  -- of types: no name is made up
  pub record CanBeNamed : Type 0 where
    pub roots : All (λ root. root.spot.file < length files) program.roots
    pub points : All (λ point. point.spot.file < length files) program.points
    pub nodes : (n : ℕ) (place : Place) → place_at program n ≡ Some place → IsNode program.types place.node
