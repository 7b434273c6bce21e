-- The statements of numbers, each once.
use Rattle.std.specs.Prelude.{◌≡◌, List}
use Rattle.std.specs.List.{filter_map, list_any}
use Rattle.design_model.specs.declared.identifier.StmtId.{StmtId}
use Rattle.def_grammar.specs.Records.{Record}
use Rattle.text_pieces.specs.Chunks.{AreOnce}
use Rattle.design_tables.specs.Lookups.{is_number}
use Rattle.design_text.specs.DesignTexts.{Content}
use Rattle.design_text.specs.Listings.{said_under}

-- this is what the statements of some numbers say, of which each is taken once
pub record AreFoundOnce (c : Content) (numbers : List StmtId) (found : List Record) : Type 0 where
  pub ids : List StmtId
  pub once : AreOnce ids
  pub same : (id : StmtId) → list_any (is_number id) ids ≡ list_any (is_number id) numbers
  pub says : found ≡ filter_map (said_under c) ids
