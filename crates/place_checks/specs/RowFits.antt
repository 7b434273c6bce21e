-- How rows take a component, and the line that this gives.
use Rattle.std.specs.Prelude.{Bool, not, ◌&&◌, List, Option, Some, None, if◌then◌else◌}
use Rattle.std.specs.List.{list_any}
use Rattle.design_model.specs.declared.diagnostic.DiagKind.{DiagKind}
use Rattle.design_model.specs.declared.diagnostic.DiagKind.TheVariants.{OffRow, OffSite, Flip}
use Rattle.place_rules.specs.Sites.{is_row_orient}
use Rattle.design_rules.specs.Boxes.{Boxed}
use Rattle.design_rules.specs.PlaceLines.{is_at_site, is_held_by, is_none, is_row_class}
use Rattle.design_rules.specs.Surroundings.{PlacedRow}
use Rattle.place_checks.specs.declared.rows.Fit.{Fit}
use Rattle.place_checks.specs.declared.rows.Fit.TheVariants as fits

-- a row holds a component, and the component is on one of its sites
abbrev pub is_on : Boxed → PlacedRow → Bool
is_on c row = is_held_by c row && is_at_site c row

-- and it is turned as the row there lets it be
abbrev pub takes : Boxed → PlacedRow → Bool
takes c row = is_on c row && is_row_orient row.orient c.orient

-- how well a row takes a component, by whether it holds it, whether that is on a site, and whether it is turned so
abbrev pub fit_by : Bool → Bool → Bool → Fit
fit_by held on so = if so then fits.Fits else (if on then fits.Flipped else (if held then fits.OffSite else fits.NotHeld))

abbrev pub row_fit : Boxed → PlacedRow → Fit
row_fit c row = fit_by (is_held_by c row) (is_on c row) (takes c row)

-- how well the best of some rows does
abbrev pub best_fit : Boxed → List PlacedRow → Fit
best_fit c rows = fit_by (list_any (is_held_by c) rows) (list_any (is_on c) rows) (list_any (takes c) rows)

-- the better of two
abbrev pub better : Fit → Fit → Fit
better fits.NotHeld b = b
better fits.OffSite fits.NotHeld = fits.OffSite
better fits.OffSite b = b
better fits.Flipped fits.Fits = fits.Fits
better fits.Flipped b = fits.Flipped
better fits.Fits b = fits.Fits

-- a component that belongs into rows
abbrev pub needs_row : Boxed → Bool
needs_row c = is_row_class c.class && not (is_none c.sites)

-- what is reported of a component that rows take so
abbrev pub kind_of : Boxed → Fit → Option DiagKind
kind_of c fits.NotHeld = if needs_row c then Some OffRow else None
kind_of c fits.OffSite = Some OffSite
kind_of c fits.Flipped = Some Flip
kind_of c fits.Fits = None
