-- A property of each place in a node of a source.
use Rattle.lk_base.specs.declared.spot.Spot.{Spot}
use Rattle.lk_typed.specs.Nodes.{Node, AnExternal, ADeclaration, ADefinition, AMember, AnItem, AParameter, ATypeName, ADeclarator, AnInitialiser, AStatement, AnExpression}
use Rattle.lk_spots.specs.Places.{ExprSpots, TypeNameSpots, MemberSpots, ItemSpots, DeclaratorSpots, ParameterSpots}
use Rattle.lk_spots.specs.StatementPlaces.{InitSpots, DeclareSpots, StmtSpots, FunctionSpots, DeclSpots}

abbrev pub NodeSpots : (Spot → Type 0) → Node → Type 0
NodeSpots P (AnExternal d) = DeclSpots P d
NodeSpots P (ADeclaration scope node) = DeclareSpots P node
NodeSpots P (ADefinition node) = FunctionSpots P node
NodeSpots P (AMember before m) = MemberSpots P m
NodeSpots P (AnItem before i) = ItemSpots P i
NodeSpots P (AParameter lone p) = ParameterSpots P p
NodeSpots P (ATypeName n) = TypeNameSpots P n
NodeSpots P (ADeclarator left d) = DeclaratorSpots P d
NodeSpots P (AnInitialiser object init) = InitSpots P init
NodeSpots P (AStatement around s) = StmtSpots P s
NodeSpots P (AnExpression e) = ExprSpots P e
