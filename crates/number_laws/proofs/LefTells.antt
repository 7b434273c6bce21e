-- The statements of a LEF text: what they tell of their numbers, in each block.
use Rattle.std.proofs.Common.{◌≡◌, ℕ, Bool, true, false, cond, List, [], ◌∷◌, None, Result, Ok, Err, codes, length, refl}
use Rattle.std.specs.Prelude.{nat_lt}
use Rattle.std.proofs.lemmas.List.Elements.{All-weaker}
use Rattle.design_model.specs.declared.TheConstants.{MAX_TEXT}
use Rattle.design_model.specs.declared.fault.Fault.{Fault}
use Rattle.design_model.specs.declared.fault.FaultCode.TheVariants.{TooLong}
use Rattle.statement_model.specs.Reading.{fault_at, read_text}
use Rattle.statement_model.specs.Tokens.{Lexed, tokens}
use Rattle.statement_model.specs.Form.{Fits, number, ◌◂◌, ◌⨟◌}
use Rattle.lef_grammar.specs.Extents.{is_distance, is_extent, is_array_count, Point, enclosed, bare, point, Corners, masked, unmasked, two_points, corners, to_end, kept_statement, size_statement}
use Rattle.lef_grammar.specs.LayerBlock.{LayerRecord, layer_width, layer_spacing, type_statement, width_statement, spacing_statement, layer_statement}
use Rattle.lef_grammar.specs.LefRecords.{Block, LefRecord, outside, in_layer, in_site, in_via, in_rule, in_rule_layer, in_macro, in_pin, in_port, in_kept, lef_statement, lef, read_lef, with_fault}
use Rattle.lef_grammar.specs.LefRecords.Block.{outermost, layer, site, via, rule, rule_layer, macro, pin, port, kept}
use Rattle.lef_grammar.specs.MacroBlock.{MacroRecord, end_macro, class, size, origin, macro_site, opens_pin, opens_obstruction, opens_density, kept_in_macro, class_statement, origin_statement, macro_site_statement, inner_header, macro_statement}
use Rattle.lef_grammar.specs.PortBlock.{PortRecord, end_port, port_layer, port_array, masked_port_array, port_rect, rect_in_port, port_shape, kept_in_port, port_rect_statement, port_rect_where, port_statement}
use Rattle.form_meanings.specs.Words.{is_semicolon}
use Rattle.lef_grammar.specs.KeptBlocks.{RuleHeader, KeptBlock, KeptRecord, end_kept, lone_word, kept_in_kept, closed_by, closed_alone, extension_token, generating_statement, kept_block_statement}
use Rattle.lef_grammar.specs.KeptBlocks.KeptBlock.{units, spacing, properties, extension, generating_rule, rule_spacing, obstruction, density}
use Rattle.lef_grammar.specs.Outermost.{OutermostRecord, end_library, opens_layer, opens_site, opens_macro, opens_rule, opens_via, opens_generating_rule, opens_units, opens_spacing, opens_properties, opens_extension, kept_outside, named_header, bare_header, outermost_statement}
use Rattle.lef_grammar.specs.PinBlock.{PinRecord, opens_port, kept_in_pin, pin_statement}
use Rattle.lef_grammar.specs.RuleBlock.{RuleRecord, opens_rule_layer, opens_rule_via, kept_in_rule, rule_statement, RuleLayerRecord, rule_width, rule_layer_statement}
use Rattle.lef_grammar.specs.SiteBlock.{SiteRecord, site_size, site_statement}
use Rattle.lef_grammar.specs.ViaBlock.{ViaStage, ViaRecord, via_rect, cut_size, cut_spacing, row_col, enclosure, via_origin, via_offset, via_corners, via_shape, via_cuts, four_distances, via_metals, via_statement}
use Rattle.lef_grammar.specs.ViaBlock.ViaStage.{in_header, without_layer, with_layer}
use Rattle.number_laws.specs.LefNumbers.{PairPasses, DistancesPass, RectangleNumbers, LayerNumbers, SiteNumbers, ViaNumbers, RuleLayerNumbers, MacroNumbers, PortNumbers, LefRecordNumbers}
use Rattle.number_laws.specs.NumberLaws.{HasNoBadNumber, LefNumbersPass, NoneIsLeftOut}
use Rattle.number_laws.specs.PartNumbers.{Passes}
use Rattle.number_laws.proofs.GoodRecords.{no_number_is_bad}
use Rattle.number_laws.proofs.Tells.{Tells, NoNumbers, upto_tells, number_tells, behind_tells, before_tells, seq_tells}

pair_tells : (t : List ℕ → Bool) → Tells (number t ⨟ number t).of (PairPasses t)
pair_tells t = record { tell = λ p ws e. (seq_tells _ _ (number_tells t) (number_tells t)).tell p ws e; good = λ p ws n. (seq_tells _ _ (number_tells t) (number_tells t)).good p ws n }

closed_pair_tells : (t : List ℕ → Bool) (w : List ℕ) → Tells (number t ⨟ number t ◂ w).of (PairPasses t)
closed_pair_tells t w = record {
  tell = λ p ws e. (seq_tells _ _ (number_tells t) (before_tells _ w (number_tells t))).tell p ws e;
  good = λ p ws n. (seq_tells _ _ (number_tells t) (before_tells _ w (number_tells t))).good p ws n;
}

point_says : (p : Point) (ws : List (List ℕ)) → point.of.bad p ws ≡ None → DistancesPass p
unfolding point
point_says (enclosed x y) ws e = (closed_pair_tells is_distance (codes ")")).tell (x, y) ws e
point_says (bare x y) ws e = (pair_tells is_distance).tell (x, y) ws e

point_good : (p : Point) (ws : List (List ℕ)) → DistancesPass p → point.of.bad p ws ≡ None
unfolding point
point_good (enclosed x y) ws p = (closed_pair_tells is_distance (codes ")")).good (x, y) ws p
point_good (bare x y) ws p = (pair_tells is_distance).good (x, y) ws p

point_tells : Tells point.of DistancesPass
point_tells = record { tell = point_says; good = point_good }

two_points_tell : Tells two_points.of (λ x. DistancesPass x.0 × DistancesPass x.1)
unfolding two_points
two_points_tell = seq_tells _ _ point_tells (before_tells _ (codes ";") point_tells)

corners_tell : (c : Corners) (ws : List (List ℕ)) → corners.of.bad c ws ≡ None → RectangleNumbers c
unfolding corners
corners_tell (masked mask a b) ws e = two_points_tell.tell (a, b) ws e
corners_tell (unmasked a b) ws e = two_points_tell.tell (a, b) ws e

corners_good : (c : Corners) (ws : List (List ℕ)) → RectangleNumbers c → corners.of.bad c ws ≡ None
unfolding corners
corners_good (masked mask a b) ws p = two_points_tell.good (a, b) ws p
corners_good (unmasked a b) ws p = two_points_tell.good (a, b) ws p

to_end_tells : NoNumbers to_end.of
unfolding to_end
to_end_tells = before_tells _ _ (upto_tells is_semicolon)

-- a number, and tokens up to the ;
number_to_end_tells : (t : List ℕ → Bool) → Tells (number t ⨟ to_end).of (λ x. Passes t x.0)
number_to_end_tells t = record {
  tell = λ x ws e. ((seq_tells _ _ (number_tells t) to_end_tells).tell x ws e).0;
  good = λ x ws p. (seq_tells _ _ (number_tells t) to_end_tells).good x ws (p, tt);
}

layer_tells : (name : List ℕ) (r : LayerRecord) (ws : List (List ℕ)) → (layer_statement name).of.bad r ws ≡ None → LayerNumbers r
unfolding layer_statement width_statement spacing_statement
layer_tells name (layer_width width rest) ws e = (number_to_end_tells is_extent).tell (width, rest) ws e
layer_tells name (layer_spacing gap rest) ws e = (number_to_end_tells is_distance).tell (gap, rest) ws e
layer_tells name _ ws e = tt

layer_good : (name : List ℕ) (r : LayerRecord) (ws : List (List ℕ)) → LayerNumbers r → (layer_statement name).of.bad r ws ≡ None
unfolding layer_statement type_statement width_statement spacing_statement kept_statement
layer_good name (layer_width width rest) ws p = (number_to_end_tells is_extent).good (width, rest) ws p
layer_good name (layer_spacing gap rest) ws p = (number_to_end_tells is_distance).good (gap, rest) ws p
layer_good name _ ws p = refl

size_tells : Tells size_statement.of (PairPasses is_extent)
unfolding size_statement
size_tells = record {
  tell = λ p ws e. (seq_tells _ _ (number_tells is_extent) (behind_tells (codes "BY") _ (before_tells _ (codes ";") (number_tells is_extent)))).tell p ws e;
  good = λ p ws n. (seq_tells _ _ (number_tells is_extent) (behind_tells (codes "BY") _ (before_tells _ (codes ";") (number_tells is_extent)))).good p ws n;
}

site_tells : (name : List ℕ) (r : SiteRecord) (ws : List (List ℕ)) → (site_statement name).of.bad r ws ≡ None → SiteNumbers r
unfolding site_statement
site_tells name (site_size width height) ws e = size_tells.tell (width, height) ws e
site_tells name _ ws e = tt

site_good : (name : List ℕ) (r : SiteRecord) (ws : List (List ℕ)) → SiteNumbers r → (site_statement name).of.bad r ws ≡ None
unfolding site_statement kept_statement
site_good name (site_size width height) ws p = size_tells.good (width, height) ws p
site_good name _ ws p = refl

four_tell : (xb yb xt yt : List ℕ) (ws : List (List ℕ)) → four_distances.of.bad (xb, (yb, (xt, yt))) ws ≡ None → PairPasses is_distance (xb, yb) × PairPasses is_distance (xt, yt)
unfolding four_distances
four_tell xb yb xt yt ws e =
    let t = (seq_tells _ _ (number_tells is_distance) (seq_tells _ _ (number_tells is_distance) (closed_pair_tells is_distance (codes ";")))).tell (xb, (yb, (xt, yt))) ws e in
    ((t.0, t.1.0), t.1.1)

four_good : (xb yb xt yt : List ℕ) (ws : List (List ℕ)) → PairPasses is_distance (xb, yb) × PairPasses is_distance (xt, yt) → four_distances.of.bad (xb, (yb, (xt, yt))) ws ≡ None
unfolding four_distances
four_good xb yb xt yt ws p =
    (seq_tells _ _ (number_tells is_distance) (seq_tells _ _ (number_tells is_distance) (closed_pair_tells is_distance (codes ";")))).good (xb, (yb, (xt, yt))) ws (p.0.0, (p.0.1, p.1))

-- a rectangle that stands there
via_corners_tell : (stage : ViaStage) (c : Corners) (ws : List (List ℕ)) → Fits (via_corners stage) c ws → (via_corners stage).of.bad c ws ≡ None → RectangleNumbers c
unfolding via_corners
via_corners_tell with_layer c ws fits e = corners_tell c ws e
via_corners_tell in_header c ws fits e = absurd fits
via_corners_tell without_layer c ws fits e = absurd fits

via_tells : (name : List ℕ) (stage : ViaStage) (r : ViaRecord) (ws : List (List ℕ)) → Fits (via_statement name stage) r ws → (via_statement name stage).of.bad r ws ≡ None → ViaNumbers r
unfolding via_statement via_shape via_cuts via_metals
via_tells name stage (via_rect c) ws fits e = via_corners_tell stage c ws fits.1.1.1.1.1 e
via_tells name stage (cut_size x y) ws fits e = (closed_pair_tells is_extent (codes ";")).tell (x, y) ws e
via_tells name stage (cut_spacing x y) ws fits e = (closed_pair_tells is_extent (codes ";")).tell (x, y) ws e
via_tells name stage (row_col rows columns) ws fits e = (closed_pair_tells is_array_count (codes ";")).tell (rows, columns) ws e
via_tells name stage (enclosure xb yb xt yt) ws fits e = four_tell xb yb xt yt ws e
via_tells name stage (via_origin x y) ws fits e = (closed_pair_tells is_distance (codes ";")).tell (x, y) ws e
via_tells name stage (via_offset xb yb xt yt) ws fits e = four_tell xb yb xt yt ws e
via_tells name stage _ ws fits e = tt

via_corners_good : (stage : ViaStage) (c : Corners) (ws : List (List ℕ)) → RectangleNumbers c → (via_corners stage).of.bad c ws ≡ None
unfolding via_corners
via_corners_good with_layer c ws p = corners_good c ws p
via_corners_good in_header c ws p = refl
via_corners_good without_layer c ws p = refl

via_good : (name : List ℕ) (stage : ViaStage) (r : ViaRecord) (ws : List (List ℕ)) → ViaNumbers r → (via_statement name stage).of.bad r ws ≡ None
unfolding via_statement via_shape via_cuts via_metals to_end kept_statement
via_good name stage (via_rect c) ws p = via_corners_good stage c ws p
via_good name stage (cut_size x y) ws p = (closed_pair_tells is_extent (codes ";")).good (x, y) ws p
via_good name stage (cut_spacing x y) ws p = (closed_pair_tells is_extent (codes ";")).good (x, y) ws p
via_good name stage (row_col rows columns) ws p = (closed_pair_tells is_array_count (codes ";")).good (rows, columns) ws p
via_good name stage (enclosure xb yb xt yt) ws p = four_good xb yb xt yt ws p
via_good name stage (via_origin x y) ws p = (closed_pair_tells is_distance (codes ";")).good (x, y) ws p
via_good name stage (via_offset xb yb xt yt) ws p = four_good xb yb xt yt ws p
via_good name stage _ ws p = refl

rule_layer_tells : (name : List ℕ) (r : RuleLayerRecord) (ws : List (List ℕ)) → (rule_layer_statement name).of.bad r ws ≡ None → RuleLayerNumbers r
unfolding rule_layer_statement
rule_layer_tells name (rule_width width) ws e = (before_tells _ (codes ";") (number_tells is_extent)).tell width ws e
rule_layer_tells name _ ws e = tt

rule_layer_good : (name : List ℕ) (r : RuleLayerRecord) (ws : List (List ℕ)) → RuleLayerNumbers r → (rule_layer_statement name).of.bad r ws ≡ None
unfolding rule_layer_statement kept_statement
rule_layer_good name (rule_width width) ws p = (before_tells _ (codes ";") (number_tells is_extent)).good width ws p
rule_layer_good name _ ws p = refl

macro_tells : (name : List ℕ) (r : MacroRecord) (ws : List (List ℕ)) → (macro_statement name).of.bad r ws ≡ None → MacroNumbers r
unfolding macro_statement origin_statement
macro_tells name (size width height) ws e = size_tells.tell (width, height) ws e
macro_tells name (origin p) ws e = point_tells.tell p (codes ";" ∷ ws) e
macro_tells name _ ws e = tt

macro_good : (name : List ℕ) (r : MacroRecord) (ws : List (List ℕ)) → MacroNumbers r → (macro_statement name).of.bad r ws ≡ None
unfolding macro_statement class_statement origin_statement macro_site_statement inner_header to_end kept_statement
macro_good name (size width height) ws p = size_tells.good (width, height) ws p
macro_good name (origin at) ws p = point_tells.good at (codes ";" ∷ ws) p
macro_good name end_macro ws p = refl
macro_good name (class w rest) ws p = refl
macro_good name (macro_site own rest) ws p = refl
macro_good name (opens_pin own) ws p = refl
macro_good name opens_obstruction ws p = refl
macro_good name opens_density ws p = refl
macro_good name (kept_in_macro w rest) ws p = refl

port_tells : (has_layer : Bool) (r : PortRecord) (ws : List (List ℕ)) → Fits (port_statement has_layer) r ws → (port_statement has_layer).of.bad r ws ≡ None → PortNumbers r
unfolding port_statement port_rect_where port_rect_statement
port_tells true (port_rect c) ws fits e = corners_tell c ws e
port_tells false (port_rect c) ws fits e = absurd fits.1.1.1
port_tells has_layer _ ws fits e = tt

port_good : (has_layer : Bool) (r : PortRecord) (ws : List (List ℕ)) → PortNumbers r → (port_statement has_layer).of.bad r ws ≡ None
unfolding port_statement port_rect_where port_rect_statement to_end kept_statement
port_good true (port_rect c) ws p = corners_good c ws p
port_good false (rect_in_port c) ws p = refl
port_good true (port_array rest) ws p = refl
port_good true (masked_port_array mask rest) ws p = refl
port_good _ end_port ws p = refl
port_good _ (port_layer name rest) ws p = refl
port_good _ (port_shape w rest) ws p = refl
port_good _ (kept_in_port w rest) ws p = refl

outermost_good : (r : OutermostRecord) (ws : List (List ℕ)) → outermost_statement.of.bad r ws ≡ None
unfolding outermost_statement named_header bare_header kept_statement
outermost_good end_library ws = refl
outermost_good (opens_layer name) ws = refl
outermost_good (opens_site name) ws = refl
outermost_good (opens_macro name) ws = refl
outermost_good (opens_rule name) ws = refl
outermost_good (opens_via name) ws = refl
outermost_good (opens_generating_rule name) ws = refl
outermost_good opens_units ws = refl
outermost_good opens_spacing ws = refl
outermost_good opens_properties ws = refl
outermost_good opens_extension ws = refl
outermost_good (kept_outside w rest) ws = refl

rule_good : (name : List ℕ) (r : RuleRecord) (ws : List (List ℕ)) → (rule_statement name).of.bad r ws ≡ None
unfolding rule_statement kept_statement
rule_good name (kept_in_rule w rest) ws = refl
rule_good name (opens_rule_layer own) ws = refl
rule_good name (opens_rule_via own) ws = refl
rule_good name _ ws = refl

pin_good : (name : List ℕ) (r : PinRecord) (ws : List (List ℕ)) → (pin_statement name).of.bad r ws ≡ None
unfolding pin_statement kept_statement
pin_good name (kept_in_pin w rest) ws = refl
pin_good name opens_port ws = refl
pin_good name _ ws = refl

closed_by_good : (own : List ℕ) (r : KeptRecord) (ws : List (List ℕ)) → (closed_by own).of.bad r ws ≡ None
unfolding closed_by kept_statement
closed_by_good own end_kept ws = refl
closed_by_good own (lone_word w) ws = refl
closed_by_good own (kept_in_kept w rest) ws = refl

closed_alone_good : (r : KeptRecord) (ws : List (List ℕ)) → closed_alone.of.bad r ws ≡ None
unfolding closed_alone kept_statement
closed_alone_good end_kept ws = refl
closed_alone_good (lone_word w) ws = refl
closed_alone_good (kept_in_kept w rest) ws = refl

extension_good : (r : KeptRecord) (ws : List (List ℕ)) → extension_token.of.bad r ws ≡ None
unfolding extension_token
extension_good end_kept ws = refl
extension_good (lone_word w) ws = refl
extension_good (kept_in_kept w rest) ws = refl

generating_good : (own : List ℕ) (header : RuleHeader) (r : KeptRecord) (ws : List (List ℕ)) → (generating_statement own header).of.bad r ws ≡ None
unfolding generating_statement kept_statement
generating_good own header end_kept ws = refl
generating_good own header (lone_word w) ws = refl
generating_good own header (kept_in_kept w rest) ws = refl

kept_good : (b : KeptBlock) (r : KeptRecord) (ws : List (List ℕ)) → (kept_block_statement b).of.bad r ws ≡ None
unfolding kept_block_statement
kept_good units r ws = closed_by_good (codes "UNITS") r ws
kept_good spacing r ws = closed_by_good (codes "SPACING") r ws
kept_good properties r ws = closed_by_good (codes "PROPERTYDEFINITIONS") r ws
kept_good extension r ws = extension_good r ws
kept_good (generating_rule name header) r ws = generating_good name header r ws
kept_good (rule_spacing owner) r ws = closed_by_good (codes "SPACING") r ws
kept_good (obstruction owner) r ws = closed_alone_good r ws
kept_good (density owner) r ws = closed_alone_good r ws

record_tells : (b : Block) (r : LefRecord) (ws : List (List ℕ)) → Fits (lef_statement b) r ws → (lef_statement b).of.bad r ws ≡ None → LefRecordNumbers r
unfolding lef_statement
record_tells outermost (outside r) ws fits e = tt
record_tells (layer name) (in_layer r) ws fits e = layer_tells name r ws e
record_tells (site name) (in_site r) ws fits e = site_tells name r ws e
record_tells (via owner name stage) (in_via r) ws fits e = via_tells name stage r ws fits e
record_tells (rule name) (in_rule r) ws fits e = tt
record_tells (rule_layer owner name) (in_rule_layer r) ws fits e = rule_layer_tells name r ws e
record_tells (macro name) (in_macro r) ws fits e = macro_tells name r ws e
record_tells (pin owner name) (in_pin r) ws fits e = tt
record_tells (port cell name has_layer) (in_port r) ws fits e = port_tells has_layer r ws fits e
record_tells (kept b) (in_kept r) ws fits e = tt
record_tells _ _ ws fits e = absurd fits

record_good : (b : Block) (r : LefRecord) (ws : List (List ℕ)) → LefRecordNumbers r → (lef_statement b).of.bad r ws ≡ None
unfolding lef_statement
record_good outermost (outside r) ws p = outermost_good r ws
record_good (layer name) (in_layer r) ws p = layer_good name r ws p
record_good (site name) (in_site r) ws p = site_good name r ws p
record_good (via owner name stage) (in_via r) ws p = via_good name stage r ws p
record_good (rule name) (in_rule r) ws p = rule_good name r ws
record_good (rule_layer owner name) (in_rule_layer r) ws p = rule_layer_good name r ws p
record_good (macro name) (in_macro r) ws p = macro_good name r ws p
record_good (pin owner name) (in_pin r) ws p = pin_good name r ws
record_good (port cell name has_layer) (in_port r) ws p = port_good has_layer r ws p
record_good (kept b) (in_kept r) ws p = kept_good b r ws
record_good _ _ ws p = refl

pub no_lef_number_is_left_out : NoneIsLeftOut lef LefRecordNumbers
no_lef_number_is_left_out b r p = record_good b r [] p

good_tells : (r : LefRecord) → HasNoBadNumber lef r → LefRecordNumbers r
good_tells r g = record_tells g.mode r [] g.fits g.good

-- a text that reads has the records that its grammar gives
no_fault : (l : Lexed) (r : Result (List LefRecord) Fault) (recs : List LefRecord) → with_fault l r ≡ Ok recs → r ≡ Ok recs
no_fault l (Ok xs) recs e = e
no_fault l (Err f) recs e = cc

short : (is_long : Bool) (f : Fault) (r : Result (List LefRecord) Fault) (recs : List LefRecord) → cond is_long (Err f) r ≡ Ok recs → r ≡ Ok recs
short true f r recs e = cc
short false f r recs e = e

reads : (text : List ℕ) (recs : List LefRecord) → read_lef text ≡ Ok recs → read_text lef outermost text ≡ Ok recs
reads text recs e = no_fault (tokens text) (read_text lef outermost text) recs (short (nat_lt MAX_TEXT (length text)) (fault_at TooLong 0) _ recs e)

pub lef_numbers_pass : LefNumbersPass
lef_numbers_pass text recs e = All-weaker (HasNoBadNumber lef) LefRecordNumbers good_tells recs (no_number_is_bad lef outermost text recs (reads text recs e))
