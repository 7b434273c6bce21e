-- The block SITE (LEF/DEF 5.8 Language Reference, "Site").
use Rattle.std.specs.Prelude.{◌⊎◌, ℕ, Bool, true, false, List, Option, Some, None, codes}
use Rattle.std.proofs.Common.{inl, inr}
use Rattle.statement_model.specs.Form.{Form, empty, ◌▸◌, on}
use Rattle.lef_grammar.specs.Extents.{kept_statement, size_statement}

-- what a statement in it says
abbrev pub SiteRecord : Type 0
SiteRecord = Unit {0} ⊎ ((List ℕ × List ℕ) ⊎ (List ℕ × List (List ℕ)))

pattern abbrev pub end_site : SiteRecord
end_site = inl tt

-- width and height, in microns as written
pattern abbrev pub site_size : List ℕ → List ℕ → SiteRecord
site_size width height = inr (inl (width, height))

-- a statement without meaning
pattern abbrev pub kept_in_site : List ℕ → List (List ℕ) → SiteRecord
kept_in_site w ws = inr (inr (w, ws))

-- END and the block's name, SIZE, or a statement without meaning
unfoldable pub site_statement : List ℕ → Form SiteRecord
site_statement name = on (codes "END") (name ▸ empty) (on (codes "SIZE") size_statement kept_statement)

abbrev pub ends_site : SiteRecord → Bool
ends_site end_site = true
ends_site _ = false

-- width and height of a SIZE
abbrev pub site_size_of : SiteRecord → Option (List ℕ × List ℕ)
site_size_of (site_size width height) = Some (width, height)
site_size_of _ = None
