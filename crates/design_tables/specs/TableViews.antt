-- Numbered statements of the program as those of the definitions.
use Rattle.design_model.specs.declared.identifier.StmtId.{StmtId}
use Rattle.def_grammar.specs.Records.{Record}
use Rattle.def_reader.specs.StatementViews.{record_view}
use Rattle.design_tables.specs.declared.tables.Numbered.{Numbered}

abbrev pub numbered_view : Numbered → StmtId × Record
numbered_view x = (x.id, record_view x.statement)
