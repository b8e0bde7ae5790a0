-- Groups of the code, with what stands in them, as the definitions of Liberty's texts have them. This project's own.
use Rattle.std.specs.Prelude.{List, map}
use Rattle.library_model.specs.LibertyStatements as liberty
use Rattle.lib_cells.specs.Seen.{statement_seen, statements_seen}
use Rattle.lib_cells.specs.declared.syntax.members.Member.{Member}

abbrev pub member_seen : Member → liberty.Member
member_seen m = record { statement = statement_seen m.statement.now; inside = statements_seen m.inside.now }

abbrev pub members_seen : List Member → List liberty.Member
members_seen members = map member_seen members
