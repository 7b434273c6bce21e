-- Statements of a block SITE: the program's as those of the definitions, and which tokens they are.
use Rattle.std.specs.Prelude.{List}
use Rattle.lef_grammar.specs.SiteBlock.{SiteRecord, end_site, site_size, kept_in_site}
use Rattle.statement_model.specs.Tokens.{Token}
use Rattle.lefdef_tokens.specs.Places.{past}
use Rattle.lefdef_tokens.specs.Views.{words_of}
use Rattle.lef_reader.specs.Parts.{SizeAt, WordsAt}
use Rattle.lef_reader.specs.declared.site_block.SiteStatement.{SiteStatement}
use Rattle.lef_reader.specs.declared.site_block.SiteStatement.TheVariants.{End, Size, Kept}

abbrev pub site_view : SiteStatement → SiteRecord
site_view End = end_site
site_view (Size width height) = site_size width.bytes.now height.bytes.now
site_view (Kept w others) = kept_in_site w.bytes.now (words_of others)

-- behind SIZE, or a statement from its word on
abbrev pub SiteAt : List Token → SiteStatement → Type 0
SiteAt ps End = Unit {0}
SiteAt ps (Size width height) = SizeAt (past 1 ps) (width, height)
SiteAt ps (Kept w others) = WordsAt ps (w, others)
