-- Outputs of lines, one after another, and that there always is one.
use Rattle.std.proofs.Common.{◌≡◌, ◌≤◌, ◌+◌, ◌==◌, ℕ, suc, true, false, List, [], ◌∷◌, ◌++◌, Option, Result, Ok, Err, refl, sym, ap, ◌∙◌, subst, append_assoc, append-nil, length, length-append, arith, nat_le}
use Rattle.std.specs.Prelude.{IsOk}
use Rattle.std.specs.Io.KnownBytes.{Appends}
use Rattle.std.specs.List.{slice_split}
use Rattle.std.proofs.lemmas.Bool.Decides.{nat_tests}
use Rattle.std.proofs.lemmas.List.Splits.{length-slice_split}
use Rattle.std.proofs.lemmas.List.Sums.{count_by-le-length}
use Rattle.counted_devices.specs.Known.{WritesPart}
use Rattle.std.proofs.KnownBytes.{Appends-nil, Appends-trans}
use Rattle.design_model.specs.declared.fault.Fault.{Fault}
use Rattle.edit_model.specs.declared.edit.Done.{Done}
use Rattle.edit_model.specs.declared.edit.EditCode.TheVariants.{Range, TooLong}
use Rattle.edit_model.specs.declared.edit.EditRefusal.{EditRefusal}
use Rattle.edit_model.specs.declared.edit.EditRefusal.TheVariants.{Refused, Memory}
use Rattle.edit_model.specs.declared.edit.EditCode.{EditCode}
use Rattle.statement_model.specs.Cuts.{Cut}
use Rattle.edit_rules.specs.Edits.{Change, cuts_of, is_long}
use Rattle.lef_grammar.specs.Library.{Library}
use Rattle.def_grammar.specs.Records.{Record}
use Rattle.def_grammar.specs.Records.{read_def}
use Rattle.edit_rules.specs.Runs.{Step, design_edit, text_edit, Answers, Makes, new_text}
use Rattle.edit_rules.specs.Script.{Order, nothing, make, refuse, ask, bad, order_of, trimmed_lines, script_lines}
use Rattle.report_rules.specs.Output.{Counts, LineAnswers, Output, reply_line, refusal_line, counted, answer_to, asked_counts, asked_line, bad_line, no_lines}
use Rattle.edit_script.specs.Ends.{WritesRun, WritesRunPart}

abbrev Lines : Type 0
Lines = List (List ℕ)

-- the output of some lines and then of others
pub Output-append : (library : Library) (n : ℕ) (xs ys : Lines) (old : List ℕ) (t : Counts) (a mid : List ℕ) (v : Counts) (b new : List ℕ) (u : Counts)
    → Output library n xs old t a mid v → Output library (n + length xs) ys mid v b new u → Output library n (xs ++ ys) old t (a ++ b) new u
Output-append library n [] ys old t a mid v b new u p q =
    let start : Output library n ys mid v b new u = subst (λ (k : ℕ). Output library k ys mid v b new u) (omega arith) q in
    let at_text : Output library n ys old v b new u = subst (λ (x : List ℕ). Output library n ys x v b new u) p.1 start in
    let at_counts : Output library n ys old t b new u = subst (λ (x : Counts). Output library n ys old x b new u) p.2 at_text in
    subst (λ (x : List ℕ). Output library n ys old t (x ++ b) new u) (sym p.0) at_counts
Output-append library n (x ∷ xs) ys old t a mid v b new u (first, rest, m, w, joined, gives, later) q =
    let next : Output library ((n + 1) + length xs) ys mid v b new u = subst (λ (k : ℕ). Output library k ys mid v b new u) (omega arith) q in
    (first, rest ++ b, m, w, ap (λ l. l ++ b) joined ∙ append_assoc first rest b, gives, Output-append library (n + 1) xs ys m w rest mid v b new u later next)

Output-one : (library : Library) (n : ℕ) (line old : List ℕ) (t : Counts) (a new : List ℕ) (u : Counts) → LineAnswers library n (order_of line) old t a new u → Output library n (line ∷ []) old t a new u
Output-one library n line old t a new u g = (a, [], new, u, sym (append-nil a), g, (refl, refl, refl))

is_le : (a b : ℕ) → nat_le a b ≡ true → a ≤ b
is_le a b e = grind (arith, nat_tests)

never : false ≡ true → ⊥
never e = cc

some_design : (r : Result (List Record) Fault) → IsOk r → (design : List Record) × (r ≡ Ok design)
some_design (Ok design) reads = (design, refl)
some_design (Err fault) reads = absurd (never reads)

some_outcome : (library : Library) (text : List ℕ) (change : Change) (outcome : Result (List Cut) EditCode) → Makes library text change outcome
    → (reply : Result Done EditRefusal) × Answers library text (design_edit change) reply text
some_outcome library text change (Ok cuts) makes = (Err Memory, (refl, (Ok cuts, makes, tt)))
some_outcome library text change (Err code) makes = (Err (Refused code), (refl, makes))

-- some answer to any edit, that leaves the text as it was
some_answer : (library : Library) (text : List ℕ) (step : Step) → IsOk (read_def text) → (reply : Result Done EditRefusal) × Answers library text step reply text
some_answer library text (design_edit change) reads =
    let (design, is) = some_design (read_def text) reads in
    some_outcome library text change (cuts_of library text design change) (design, is, refl)
some_answer library text (text_edit a b put) reads =
    elim (nat_le a b) as (λ r. nat_le a b ≡ r → (reply : Result Done EditRefusal) × Answers library text (text_edit a b put) reply text) [
      | false ↦ λ d. (Err (Refused Range), (refl, rw d refl))
      | true ↦ λ d. elim (nat_le b (length text)) as (λ r. nat_le b (length text) ≡ r → (reply : Result Done EditRefusal) × Answers library text (text_edit a b put) reply text) [
        | false ↦ λ e. (Err (Refused Range), (refl, rw (d, e) refl))
        | true ↦ λ e. elim (is_long (new_text text a b put)) as (λ r. is_long (new_text text a b put) ≡ r → (reply : Result Done EditRefusal) × Answers library text (text_edit a b put) reply text) [
          | true ↦ λ f. (Err (Refused TooLong), (refl, rw (d, e, f) refl))
          | false ↦ λ f. (Err Memory, (refl, is_le a b d, is_le b (length text) e, f))
        ] refl
      ] refl
    ] refl

some_line : (library : Library) (n : ℕ) (order : Order) (old : List ℕ) (t : Counts) → IsOk (read_def old) → (bytes : List ℕ) × (u : Counts) × LineAnswers library n order old t bytes old u
some_line library n nothing old t reads = ([], t, (refl, refl, refl))
some_line library n (make step) old t reads =
    let (reply, answer) = some_answer library old step reads in
    (reply_line n reply, counted reply t, (reply, answer, refl, refl))
some_line library n (refuse code) old t reads = (refusal_line n (Refused code), record t { refused = t.refused + 1 }, (refl, refl, refl))
some_line library n (ask question) old t reads =
    let (design, is) = some_design (read_def old) reads in
    let answer = answer_to library old design question in
    (asked_line n answer, asked_counts answer t, (design, is, refl, refl, refl))
some_line library n bad old t reads = (bad_line n, record t { bad = t.bad + 1 }, (refl, refl, refl))

-- there is an output of any lines, over a text that reads
pub some_output : (library : Library) (n : ℕ) (lines : Lines) (old : List ℕ) (t : Counts) → IsOk (read_def old) → (bytes new : List ℕ) × (u : Counts) × Output library n lines old t bytes new u
some_output library n [] old t reads = ([], old, t, (refl, refl, refl))
some_output library n (line ∷ lines) old t reads =
    let (a, v, g) = some_line library n (order_of line) old t reads in
    let (b, new, u, o) = some_output library (n + 1) lines old v reads in
    (a ++ b, new, u, (a, b, old, v, refl, g, o))

-- the lines that were answered and the rest, how many they are, and what was written of them
pub record Answered (library : Library) (text script : List ℕ) (number : ℕ) (left : Lines) (o o' : Option (List ℕ)) (now : List ℕ) (counts : Counts) : Type 0 where
  pub done : Lines
  pub bytes : List ℕ
  pub lines : script_lines script ≡ done ++ left
  pub count : number ≡ length done
  pub output : Output library 1 done text no_lines bytes now counts
  pub written : Appends o o' bytes

pub answered_start : (library : Library) (text script : List ℕ) (o : Option (List ℕ)) → Answered library text script 0 (script_lines script) o o text no_lines
answered_start library text script o = record { done = []; bytes = []; lines = refl; count = refl; output = (refl, refl, refl); written = Appends-nil o }

module _ (library now_library : Library) (text script : List ℕ) (number : ℕ) (left later : Lines) (line : List ℕ) (o a b : Option (List ℕ)) (old : List ℕ) (t : Counts) where
  -- the next line's answer, after those before it
  next_output : (c : Answered library text script number left o a old t) (answer new : List ℕ) (u : Counts) → now_library ≡ library → LineAnswers now_library (number + 1) (order_of line) old t answer new u
      → Output library 1 (c.done ++ line ∷ []) text no_lines (c.bytes ++ answer) new u
  next_output c answer new u same g =
      let at_library = subst (λ (l : Library). LineAnswers l (number + 1) (order_of line) old t answer new u) same g in
      let at_number = subst (λ (k : ℕ). LineAnswers library k (order_of line) old t answer new u) (let e : number + 1 ≡ 1 + length c.done = omega (arith, c.count) in e) at_library in
      Output-append library 1 c.done (line ∷ []) text no_lines c.bytes old t answer new u c.output (Output-one library (1 + length c.done) line old t answer new u at_number)

  next_lines : (c : Answered library text script number left o a old t) → left ≡ line ∷ later → script_lines script ≡ (c.done ++ line ∷ []) ++ later
  next_lines c e = c.lines ∙ ap (λ l. c.done ++ l) e ∙ sym (append_assoc c.done (line ∷ []) later)

  pub answered_more : Answered library text script number left o a old t → left ≡ line ∷ later → (answer new : List ℕ) (u : Counts) → now_library ≡ library
      → LineAnswers now_library (number + 1) (order_of line) old t answer new u → Appends a b answer → Answered library text script (number + 1) later o b new u
  answered_more c e answer new u same g w = record {
    done = c.done ++ line ∷ [];
    bytes = c.bytes ++ answer;
    lines = next_lines c e;
    count = ap (λ k. k + 1) c.count ∙ sym (length-append c.done (line ∷ []));
    output = next_output c answer new u same g;
    written = Appends-trans o a b c.bytes answer c.written w;
  }

-- what was written of some first lines is the first part of an output of all
part_of : (library : Library) (text script : List ℕ) (done left : Lines) (part rest now : List ℕ) (t : Counts) (o o' : Option (List ℕ)) → IsOk (read_def now) → script_lines script ≡ done ++ left
    → Output library 1 done text no_lines (part ++ rest) now t → Appends o o' part → WritesRunPart library text (script_lines script) o o'
part_of library text script done left part rest now t o o' reads joined out w =
    let (more, new, u, later) = some_output library (1 + length done) left now t reads in
    let all = Output-append library 1 done left text no_lines (part ++ rest) now t more new u out later in
    let whole = subst (λ (ls : Lines). Output library 1 ls text no_lines ((part ++ rest) ++ more) new u) (sym joined) all in
    (part, rest ++ more, new, u, subst (λ (b : List ℕ). Output library 1 (script_lines script) text no_lines b new u) (append_assoc part rest more) whole, w)

-- the run stops before a line is answered
pub answered_part : (library : Library) (text script : List ℕ) (number : ℕ) (left : Lines) (o o' : Option (List ℕ)) (now : List ℕ) (t : Counts) → IsOk (read_def now)
    → Answered library text script number left o o' now t → WritesRunPart library text (script_lines script) o o'
answered_part library text script number left o o' now t reads c =
    part_of library text script c.done left c.bytes [] now t o o' reads c.lines (subst (λ (b : List ℕ). Output library 1 c.done text no_lines b now t) (sym (append-nil c.bytes)) c.output) c.written

-- the run stops where an answer is written in part
pub answered_cut : (library now_library : Library) (text script : List ℕ) (number : ℕ) (left later : Lines) (line : List ℕ) (o a b : Option (List ℕ)) (old : List ℕ) (t : Counts) (answer new : List ℕ) (u : Counts)
    → Answered library text script number left o a old t → left ≡ line ∷ later → now_library ≡ library → LineAnswers now_library (number + 1) (order_of line) old t answer new u → IsOk (read_def new)
    → WritesPart a b answer → WritesRunPart library text (script_lines script) o b
answered_cut library now_library text script number left later line o a b old t answer new u c e same g reads (done, rest, split, more) =
    part_of library text script (c.done ++ line ∷ []) later (c.bytes ++ done) rest new u o b reads (next_lines library now_library text script number left later line o a b old t c e)
    (subst (λ (x : List ℕ). Output library 1 (c.done ++ line ∷ []) text no_lines x new u) (ap (λ l. c.bytes ++ l) split ∙ sym (append_assoc c.bytes done rest))
    (next_output library now_library text script number left later line o a b old t c answer new u same g))
    (Appends-trans o a b c.bytes done c.written more)

-- all lines are answered
pub answered_whole : (library : Library) (text script : List ℕ) (number : ℕ) (left : Lines) (o o' : Option (List ℕ)) (now : List ℕ) (t : Counts) → left ≡ []
    → Answered library text script number left o o' now t → WritesRun library text (script_lines script) o o' now t
answered_whole library text script number left o o' now t none c =
    (c.bytes, subst (λ (ls : Lines). Output library 1 ls text no_lines c.bytes now t) (sym (c.lines ∙ ap (λ l. c.done ++ l) none ∙ append-nil c.done)) c.output, c.written)

-- a script has at most one line more than bytes
length-trimmed_lines : (ls : Lines) → length (trimmed_lines ls) ≡ length ls
length-trimmed_lines [] = refl
length-trimmed_lines (l ∷ []) = refl
length-trimmed_lines (l ∷ m ∷ ls) = ap suc (length-trimmed_lines (m ∷ ls))

pub length-script_lines : (script : List ℕ) → length (script_lines script) ≤ length script + 1
length-script_lines script =
    omega (arith, length-trimmed_lines (slice_split (λ b. b == 10) script), length-slice_split (λ b. b == 10) script, count_by-le-length (λ b. b == 10) script)
