-- A text that is read to its end.
use Rattle.std.proofs.Common.{◌≡◌, ◌≤◌, ◌<◌, ℕ, true, false, List, [], ◌∷◌, ◌++◌, length, drop, map, Option, None, Ok, Err, rules, refl, sym, ap, ◌∙◌, subst, arith, length-append, IsOk}
use Rattle.std.specs.Prelude.{nat_lt}
use Rattle.std.specs.List.{concat}
use Rattle.std.proofs.lemmas.Bool.Decides.{nat_tests}
use Rattle.design_model.specs.declared.TheConstants.{MAX_TEXT}
use Rattle.design_model.specs.declared.fault.FaultCode.TheVariants.{TooLong}
use Rattle.design_model.specs.declared.identifier.StmtId.{StmtId}
use Rattle.design_model.specs.declared.mode.Mode.{Mode}
use Rattle.design_model.specs.declared.mode.Mode.TheVariants.{Top, In, Props, After}
use Rattle.statement_model.specs.Tokens.{tokens, left_from}
use Rattle.statement_model.specs.Reading.{read_at, read_from, read_text}
use Rattle.def_grammar.specs.Records.{Record, def, is_after}
use Rattle.piece_laws.specs.PieceLaws.{TailsAreFound, TailsMayEnd}
use Rattle.piece_laws.specs.PlaceLaws.{TextsAreRead}
use Rattle.piece_laws.specs.Pieces.{keyless, AreApart, AreChained, IsTail}
use Rattle.text_pieces.specs.Chunks.{Numbers, all_ids}
use Rattle.text_pieces.specs.Content.{Content, IsText, bytes_of, read_keyless, text_of}
use Rattle.text_pieces.specs.Opening.{IsOpened}
use Rattle.text_pieces.specs.Tables.{Kept, kept_at, weight}
use Rattle.text_pieces.proofs.ReadPieces.{left_at, read_start}

-- the pieces of numbers have as many bytes as they have joined
pub weight_is : (slots : List (Option Kept)) (ids : List StmtId) → length (concat (bytes_of (map (kept_at slots) ids))) ≡ weight slots ids
weight_is slots [] = refl
weight_is slots (x ∷ xs) =
    let b = (kept_at slots x).bytes in
    let rest = concat (bytes_of (map (kept_at slots) xs)) in
    omega (arith, length-append b rest, weight_is slots xs)

-- a text that isn't too long is read from its tokens
pub read_is : (text : List ℕ) → length text ≤ MAX_TEXT → read_keyless text ≡ read_from (keyless def) (Top, []) (tokens text)
unfolding read_text
read_is text fits = let few : nat_lt MAX_TEXT (length text) ≡ false = grind (arith, nat_tests) in rw few refl

pub opened_start : (text : List ℕ) → IsOpened text [] [] [] Top 0
opened_start text = record { read = read_start text; chunks = tt; once = tt }

pub after_is : (m : Mode) → is_after m ≡ true → m ≡ After
after_is Top ends = absurd (cc)
after_is (In s) ends = absurd (cc)
after_is Props ends = absurd (cc)
after_is After ends = refl

abbrev pub content : List Numbers → List (Option Kept) → List ℕ → ℕ → Content
content chunks slots tail len = record { table = record { chunks = chunks; slots = slots }; tail = tail; len = len }

module _ (text : List ℕ) (cs : List Numbers) (recs : List Record) (slots : List (Option Kept)) (mode : Mode) (pos : ℕ) (tail : List ℕ) (o : IsOpened text cs recs slots mode pos) (is : tail ≡ drop pos text) where
  ks : List Kept
  ks = map (kept_at slots) (all_ids cs)

  tail_is : o.read.left ≡ tail
  tail_is = sym (left_at text (map (kept_at slots) (all_ids cs)) recs mode pos o.read) ∙ sym is

  pub opened_whole : text_of (content cs slots tail (length text)) ≡ text
  opened_whole = sym (o.read.whole ∙ ap (λ (t : List ℕ). concat (bytes_of (map (kept_at slots) (all_ids cs))) ++ t) tail_is)

  -- the text says what was read
  pub opened_said : TailsAreFound def → TailsMayEnd def → read_at def mode (left_from text pos) ≡ Ok None → length text ≤ MAX_TEXT → (t : IsText (content cs slots tail (length text))) × (t.recs ≡ recs)
  opened_said found may_end ends fits =
      let tail_ends = subst (λ (t : List ℕ). IsTail def mode t) (sym is) (found pos mode (drop pos text) ends) in
      let last = after_is mode (may_end mode tail tail_ends) in
      let bytes = bytes_of (map (kept_at slots) (all_ids cs)) in
      let long : length text ≡ length (text_of (content cs slots tail (length text))) = ap (λ (t : List ℕ). length t) (sym opened_whole) in
      let heavy = weight_is slots (all_ids cs) in (
        record {
          table = record { chunks = o.chunks; once = o.once; fits = omega (arith, long, fits, heavy, length-append (concat bytes) tail) };
          recs = recs;
          chained = subst (AreChained def Top bytes recs) last o.read.chained;
          modes = o.read.modes;
          apart = subst (AreApart bytes) tail_is o.read.apart;
          ends = subst (λ (m : Mode). IsTail def m tail) last tail_ends;
          whole = long;
          fits = omega (arith, long, fits);
        },
        refl,
      )

  pub opened_text : TailsAreFound def → TailsMayEnd def → read_at def mode (left_from text pos) ≡ Ok None → length text ≤ MAX_TEXT → IsText (content cs slots tail (length text))
  opened_text found may_end ends fits = (opened_said found may_end ends fits).0

pub opened_reads : TextsAreRead def → (c : Content) → IsText c → IsOk (read_keyless (text_of c))
opened_reads law c t =
    let bytes = bytes_of (map (kept_at c.table.slots) (all_ids c.table.chunks)) in
    let reads = law Top After bytes t.recs c.tail t.chained t.apart t.ends in
    rw (read_is (text_of c) t.fits, reads.0) (search rules)

-- a text that is too long isn't read
pub too_long : (text : List ℕ) → MAX_TEXT < length text → read_keyless text ≡ Err (record { code = TooLong; pos = 0 })
unfolding read_text
too_long text long = let many : nat_lt MAX_TEXT (length text) ≡ true = grind (arith, nat_tests) in rw many refl
