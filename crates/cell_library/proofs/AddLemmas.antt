-- What a text defines, as a loop over its statements finds it.
use Rattle.std.proofs.Common.{◌≡◌, ℕ, ◌≤◌, false, List, [], ◌∷◌, ◌++◌, length, nat_lt, arith, refl, sym, ap, ◌∙◌, append_assoc, Ok, Err, Some, None}
use Rattle.std.proofs.lemmas.Bool.Decides.{nat_tests}
use Rattle.std.proofs.lemmas.List.{append-nil}
use Rattle.design_model.specs.declared.TheConstants.{MAX_TEXT}
use Rattle.design_model.specs.declared.fault.Fault.{Fault}
use Rattle.statement_model.specs.Tokens.{Lexed, left_from, tokens}
use Rattle.statement_model.specs.Reading.{read_at}
use Rattle.statement_reader.proofs.SoFar.{SoFar, so_far_start, so_far_on, so_far_fault, so_far_ends}
use Rattle.lef_grammar.specs.LefRecords.{Block, outermost, LefRecord, outside, in_layer, in_site, in_via, in_rule, in_rule_layer, in_macro, in_pin, in_port, in_kept, lef, fault_on, read_lef, read_lef_at}
use Rattle.lef_grammar.specs.Library.{Library, with_text}
use Rattle.lef_reader.proofs.FaultLemmas.{fault_here, fault_later, lef_fault, lef_reads, own_fault, own_record}
use Rattle.cell_library.specs.LibraryViews.{noted}
use Rattle.cell_library.proofs.JoinLemmas.{texts_join}

-- a library with the statements that wait, and those that are left
abbrev all_of : Library × List LefRecord → List LefRecord → Library
all_of s recs = with_text s.0 (s.1 ++ recs)

later : (r : LefRecord) (l : Library) (group recs : List LefRecord) → with_text l (group ++ (r ∷ recs)) ≡ with_text l ((group ++ r ∷ []) ++ recs)
later r l group recs = ap (with_text l) (sym (append_assoc group (r ∷ []) recs))

step : (r : LefRecord) (l : Library) (group recs : List LefRecord) → all_of (l, group) (r ∷ recs) ≡ all_of (noted r (l, group)) recs
step (outside r) l group recs = texts_join l group r recs
step (in_layer r) l group recs = later (in_layer r) l group recs
step (in_site r) l group recs = later (in_site r) l group recs
step (in_via r) l group recs = later (in_via r) l group recs
step (in_rule r) l group recs = later (in_rule r) l group recs
step (in_rule_layer r) l group recs = later (in_rule_layer r) l group recs
step (in_macro r) l group recs = later (in_macro r) l group recs
step (in_pin r) l group recs = later (in_pin r) l group recs
step (in_port r) l group recs = later (in_port r) l group recs
step (in_kept r) l group recs = later (in_kept r) l group recs

-- What was read of a text, and that it and what is left define what is defined so far with the statements that wait and
-- those that are left.
pub record Adding (text : List ℕ) (old now : Library) (group : List LefRecord) (b : Block) (pos : ℕ) : Type 0 where
  pub front : List LefRecord
  pub so_far : SoFar lef outermost text front b [] pos
  pub fits : nat_lt MAX_TEXT (length text) ≡ false
  pub fault : (f : Fault) → fault_on (tokens text).end f outermost [] (tokens text).pieces ≡ fault_on (left_from text pos).end f b [] (left_from text pos).pieces
  pub same : (recs : List LefRecord) → with_text old (front ++ recs) ≡ with_text now (group ++ recs)

pub adding_start : (text : List ℕ) (old : Library) → length text ≤ MAX_TEXT → Adding text old old [] outermost 0
adding_start text old fits = record { front = []; so_far = so_far_start lef outermost text fits; fits = grind (arith, nat_tests); fault = λ f. refl; same = λ recs. refl }

module _ (text : List ℕ) (old now : Library) (group : List LefRecord) (b : Block) (pos : ℕ) (a : Adding text old now group b pos) where
  pub adding_on : (next : Library) (waiting : List LefRecord) (after : Block) (end : ℕ) (rec : LefRecord)
      → read_lef_at b (left_from text pos) ≡ Ok (Some (rec, after, left_from text end))
      → (next, waiting) ≡ noted rec (now, group)
      → Adding text old next waiting after end
  adding_on next waiting after end rec h e =
      let left = left_from text pos in
      let read = own_record b left (Some (rec, after, left_from text end)) (read_at lef b left) h in
      record {
        front = a.front ++ rec ∷ [];
        so_far = so_far_on lef outermost text a.front b [] pos a.so_far after end rec read refl;
        fits = a.fits;
        fault = λ f. a.fault f ∙ fault_later b left f after (left_from text end) rec read;
        same = λ recs.
            ap (with_text old) (append_assoc a.front (rec ∷ []) recs) ∙ a.same (rec ∷ recs) ∙ step rec now group recs
            ∙ ap (λ (s : Library × List LefRecord). all_of s recs) (sym e);
      }

  pub adding_fault : (f : Fault) → read_lef_at b (left_from text pos) ≡ Err f → read_lef text ≡ Err f
  adding_fault f h =
      let left = left_from text pos in
      let own = own_fault b left f (read_at lef b left) h in
      lef_fault text a.fits own.own f (so_far_fault lef outermost text a.front b [] pos a.so_far own.own own.is) (a.fault own.own ∙ fault_here b left own.own own.is ∙ own.first)

  -- the text ends, and what waits is added
  pub adding_ends : (new : Library)
      → left_from text pos ≡ record { pieces = []; end = Ok (length text) }
      → read_lef_at b (left_from text pos) ≡ Ok None
      → new ≡ with_text now group
      → (recs : List LefRecord) × (read_lef text ≡ Ok recs) × (new ≡ with_text old recs)
  adding_ends new left none e =
      let end = ap (λ (l : Lexed). l.end) left in
      let all = ap (with_text old) (sym (append-nil a.front)) ∙ a.same [] ∙ ap (with_text now) (append-nil group) in
      let read = own_record b (left_from text pos) None (read_at lef b (left_from text pos)) none in
      (a.front, lef_reads text a.fits a.front (so_far_ends lef outermost text a.front b [] pos a.so_far (length text) end read refl), e ∙ sym all)
