-- Lines on components where nothing is exchanged that they hang on.
use Rattle.std.proofs.Common.{◌≡◌, ◌||◌, ◌&&◌, if◌then◌else◌, ℕ, Bool, true, false, not, List, [], ◌∷◌, ◌++◌, Option, None, filter, refl, sym, ap, subst, ◌∙◌}
use Rattle.std.specs.List.{filter_map, list_any}
use Rattle.std.proofs.lemmas.List.Elements.{filter-append}
use Rattle.design_model.specs.Geometry.{Rectangle}
use Rattle.design_model.specs.declared.identifier.StmtId.{StmtId}
use Rattle.def_grammar.specs.Blockages.{BlockageEntry, blockage_kept, blocks}
use Rattle.def_grammar.specs.Records as records
use Rattle.def_grammar.specs.Records.{Record, end_section, entry, in_properties, top}
use Rattle.def_grammar.specs.Top.{end_design, extension, floor, header, properties, units}
use Rattle.def_grammar.specs.Top as tops
use Rattle.entry_rules.specs.Blocked.{blocked_rectangles, is_of_placement, is_spared}
use Rattle.lef_grammar.specs.Library.{Library}
use Rattle.design_rules.specs.Boxes.{Boxed, box_of, scale}
use Rattle.design_model.specs.Families.{cross_lines}
use Rattle.design_rules.specs.PlaceLines.{blocked_of}
use Rattle.design_rules.specs.Surroundings.{keep_out_of, keep_outs, surroundings}
use Rattle.line_laws.specs.Lines.{SameLines}
use Rattle.following_laws.specs.DesignLaws.{lines_of_components}
use Rattle.following_laws.specs.Following.{LinesFollow}
use Rattle.staying_laws.specs.PlaceStatements.{ComponentsAreExchanged, boxes_among, is_surrounding}
use Rattle.staying_laws.specs.Staying.{lines_on_places}
use Rattle.text_pieces.specs.Tables.{Kept}
use Rattle.design_text.specs.Exchanges.{Exchanged, IsExchange}
use Rattle.followed_statements.specs.Following.{said}
use Rattle.followed_statements.specs.Places.{SamePlaces, is_of_places, is_placement_blockage}
use Rattle.followed_statements.proofs.ExchangeLemmas.{exchanged, kept, said_parted}

none_of_both : (b c : Bool) → (b || c) ≡ false → (b ≡ false) × (c ≡ false)
none_of_both true c h = absurd (cc)
none_of_both false c h = (refl, h)

-- what a test says of a list in which it finds none
pub none_where : (any : Bool) → not any ≡ true → any ≡ false
none_where true h = absurd (cc)
none_where false h = refl

-- one statement that they don't hang on
record IsApart (library : Library) (r : Record) : Type 0 where
  no_box : (u : ℕ) → box_of library u r ≡ None
  not_round : is_surrounding r ≡ false
  no_keep_out : keep_out_of r ≡ []

-- an entry that doesn't block placement keeps no component out
unless_placement : (p s : Bool) (rs : List Rectangle) → p ≡ false → (if p && s then rs else []) ≡ []
unless_placement true s rs h = absurd (cc)
unless_placement false s rs h = refl

blockage_apart : (library : Library) (b : BlockageEntry) → is_placement_blockage b ≡ false → IsApart library (entry (records.blockage b))
blockage_apart library (blocks b) h = record { no_box = λ u. refl; not_round = refl; no_keep_out = unless_placement (is_of_placement b.kind) (not (is_spared b)) (blocked_rectangles b) h }
blockage_apart library (blockage_kept ws) h = record { no_box = λ u. refl; not_round = refl; no_keep_out = refl }

apart : (library : Library) (r : Record) → is_of_places r ≡ false → IsApart library r
apart library (top (units n)) h = absurd (cc)
apart library (top (floor f)) h = absurd (cc)
apart library (top (header s n)) h = record { no_box = λ u. refl; not_round = h; no_keep_out = refl }
apart library (top end_design) h = record { no_box = λ u. refl; not_round = h; no_keep_out = refl }
apart library (top properties) h = record { no_box = λ u. refl; not_round = h; no_keep_out = refl }
apart library (top (extension ws)) h = record { no_box = λ u. refl; not_round = h; no_keep_out = refl }
apart library (top (tops.kept w ws)) h = record { no_box = λ u. refl; not_round = h; no_keep_out = refl }
apart library (in_properties p) h = record { no_box = λ u. refl; not_round = h; no_keep_out = refl }
apart library (end_section s) h = record { no_box = λ u. refl; not_round = h; no_keep_out = refl }
apart library (entry (records.component c)) h = absurd (cc)
apart library (entry (records.pin x)) h = record { no_box = λ u. refl; not_round = h; no_keep_out = refl }
apart library (entry (records.region x)) h = absurd (cc)
apart library (entry (records.group x)) h = absurd (cc)
apart library (entry (records.blockage x)) h = blockage_apart library x h
apart library (entry (records.net x)) h = record { no_box = λ u. refl; not_round = h; no_keep_out = refl }
apart library (entry (records.special_net x)) h = record { no_box = λ u. refl; not_round = h; no_keep_out = refl }
apart library (entry (records.via x)) h = record { no_box = λ u. refl; not_round = h; no_keep_out = refl }
apart library (entry (records.rule x)) h = record { no_box = λ u. refl; not_round = h; no_keep_out = refl }
apart library (entry (records.skipped s x)) h = record { no_box = λ u. refl; not_round = h; no_keep_out = refl }

-- some of them
record AreApart (library : Library) (rs : List Record) : Type 0 where
  no_boxes : (u : ℕ) → filter_map (box_of library u) rs ≡ []
  none_round : filter is_surrounding rs ≡ []
  no_keep_outs : keep_outs rs ≡ []

all_apart : (library : Library) (rs : List Record) → list_any is_of_places rs ≡ false → AreApart library rs
all_apart library [] h = record { no_boxes = λ u. refl; none_round = refl; no_keep_outs = refl }
all_apart library (r ∷ rs) h =
    let both = none_of_both (is_of_places r) (list_any is_of_places rs) h in
    let here = apart library r both.0 in
    let later = all_apart library rs both.1 in
    record {
      no_boxes = λ u. rw (here.no_box u) (later.no_boxes u);
      none_round = rw (here.not_round) later.none_round;
      no_keep_outs = rw (here.no_keep_out) later.no_keep_outs;
    }

-- what stands round components is the same with such statements among others as without them
round : (library : Library) (front some rest : List Record) → AreApart library some → filter is_surrounding (front ++ (some ++ rest)) ≡ filter is_surrounding front ++ filter is_surrounding rest
round library front some rest a =
    filter-append is_surrounding front (some ++ rest)
    ∙ ap (λ (l : List Record). filter is_surrounding front ++ l) (filter-append is_surrounding some rest ∙ ap (λ (l : List Record). l ++ filter is_surrounding rest) a.none_round)

-- with no rectangles there are no lines
none_crossed : (bs : List Boxed) → cross_lines blocked_of bs [] ≡ []
none_crossed [] = refl
none_crossed (b ∷ bs) = none_crossed bs

-- lines of which none goes and none comes are the same
same_if_none : (a b : List (List ℕ)) → LinesFollow a b [] [] → SameLines a b
same_if_none a b f = record { often = λ q. f.old_is.often q ∙ sym (f.new_is.often q) }

pub exchange_leaves : ComponentsAreExchanged → (slots : List (Option Kept)) (old new : List (StmtId × Record)) (x : Exchanged) → IsExchange slots old new x
    → list_any is_of_places (kept slots x.went) ≡ false → list_any is_of_places (kept slots x.came) ≡ false → SamePlaces (said old) (said new)
exchange_leaves law slots old new x e goes comes library =
    let went = kept slots x.went in
    let came = kept slots x.came in
    let front = kept slots e.front in
    let rest = kept slots e.rest in
    let out = all_apart library went goes in
    let put = all_apart library came comes in
    let old_is : said old ≡ front ++ (went ++ rest) = ap said e.old_is ∙ said_parted slots e.front x.went e.rest in
    let new_is : said new ≡ front ++ (came ++ rest) = ap said e.new_is ∙ said_parted slots e.front x.came e.rest in
    let same : filter is_surrounding (said old) ≡ filter is_surrounding (said new) =
    ap (filter is_surrounding) old_is ∙ round library front went rest out ∙ sym (ap (filter is_surrounding) new_is ∙ round library front came rest put)
    in
    let follow = law library (said old) (said new) went came (front ++ rest) (exchanged slots old new x e) same in
    let u = scale (said old) in
    let s = surroundings library (said old) in
    let stay = boxes_among library (said old) (front ++ rest) in
    let a = lines_on_places library (said old) in
    let b = lines_on_places library (said new) in
    let lines = λ (bs : List Boxed) (outs gone : List Rectangle). lines_of_components s bs stay outs gone in
    let gone = boxes_among library (said old) went in
    let come = boxes_among library (said old) came in
    let k = keep_outs (said old) in
    let l = keep_outs (said new) in
    let first = subst (λ (bs : List Boxed). LinesFollow a b (lines bs k (keep_outs went)) (lines come l (keep_outs came))) (out.no_boxes u) follow.lines in
    let second = subst (λ (bs : List Boxed). LinesFollow a b (lines [] k (keep_outs went)) (lines bs l (keep_outs came))) (put.no_boxes u) first in
    let third = subst (λ (rs : List Rectangle). LinesFollow a b (lines [] k rs) (lines [] l (keep_outs came))) out.no_keep_outs second in
    let fourth = subst (λ (rs : List Rectangle). LinesFollow a b (lines [] k []) (lines [] l rs)) put.no_keep_outs third in
    let fifth = subst (λ (q : List (List ℕ)). LinesFollow a b q (lines [] l [])) (none_crossed stay) fourth in
    same_if_none a b (subst (λ (q : List (List ℕ)). LinesFollow a b [] q) (none_crossed stay) fifth)

-- the relation goes on
pub same_places_themselves : (rs : List Record) → SamePlaces rs rs
same_places_themselves rs library = record { often = λ q. refl }

pub same_places_chain : (a b c : List Record) → SamePlaces a b → SamePlaces b c → SamePlaces a c
same_places_chain a b c f g library = record { often = λ q. (f library).often q ∙ (g library).often q }
