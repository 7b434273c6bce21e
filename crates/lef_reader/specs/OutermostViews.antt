-- Statements outside of all blocks: the program's as those of the definitions, and which tokens they are.
use Rattle.std.specs.Prelude.{List}
use Rattle.std.proofs.Common.{inl, inr}
use Rattle.lef_grammar.specs.Outermost.{NamedHeader, BareHeader, OutermostRecord, end_library, opens_named, opens_bare, kept_outside}
use Rattle.statement_model.specs.Tokens.{Token}
use Rattle.lefdef_tokens.specs.Places.{StandsAt, past}
use Rattle.lefdef_tokens.specs.Views.{words_of}
use Rattle.lef_reader.specs.Parts.{WordsAt}
use Rattle.lef_reader.specs.declared.outermost.NamedHeader as code_named
use Rattle.lef_reader.specs.declared.outermost.NamedHeader.TheVariants as named
use Rattle.lef_reader.specs.declared.outermost.BareHeader as code_bare
use Rattle.lef_reader.specs.declared.outermost.BareHeader.TheVariants as bare
use Rattle.lef_reader.specs.declared.outermost.OutermostStatement.{OutermostStatement}
use Rattle.lef_reader.specs.declared.outermost.OutermostStatement.TheVariants.{EndLibrary, Named, Bare, Kept}

abbrev pub named_view : code_named.NamedHeader → NamedHeader
named_view (named.Layer name) = inl name.bytes.now
named_view (named.Site name) = inr (inl name.bytes.now)
named_view (named.Macro name) = inr (inr (inl name.bytes.now))
named_view (named.Rule name) = inr (inr (inr (inl name.bytes.now)))
named_view (named.Via name) = inr (inr (inr (inr (inl name.bytes.now))))
named_view (named.GeneratingRule name) = inr (inr (inr (inr (inr name.bytes.now))))

-- the second of these tokens is the name
abbrev pub NamedAt : List Token → code_named.NamedHeader → Type 0
NamedAt ps (named.Layer name) = StandsAt (past 1 ps) name
NamedAt ps (named.Site name) = StandsAt (past 1 ps) name
NamedAt ps (named.Macro name) = StandsAt (past 1 ps) name
NamedAt ps (named.Rule name) = StandsAt (past 1 ps) name
NamedAt ps (named.Via name) = StandsAt (past 1 ps) name
NamedAt ps (named.GeneratingRule name) = StandsAt (past 1 ps) name

abbrev pub bare_view : code_bare.BareHeader → BareHeader
bare_view bare.Units = inl tt
bare_view bare.Spacing = inr (inl tt)
bare_view bare.Properties = inr (inr (inl tt))
bare_view bare.Extension = inr (inr (inr tt))

abbrev pub outermost_view : OutermostStatement → OutermostRecord
outermost_view EndLibrary = end_library
outermost_view (Named header) = opens_named (named_view header)
outermost_view (Bare header) = opens_bare (bare_view header)
outermost_view (Kept w others) = kept_outside w.bytes.now (words_of others)

abbrev pub OutermostAt : List Token → OutermostStatement → Type 0
OutermostAt ps EndLibrary = Unit {0}
OutermostAt ps (Named header) = NamedAt ps header
OutermostAt ps (Bare header) = Unit {0}
OutermostAt ps (Kept w others) = WordsAt ps (w, others)
