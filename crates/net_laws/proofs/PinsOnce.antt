-- Pins of a net, each once, of which some pass a test of their words.
use Rattle.std.proofs.Common.{◌≡◌, ◌∙◌, ℕ, ◌+◌, Bool, true, false, ◌||◌, ◌&&◌, not, List, [], ◌∷◌, filter, map, sum_by, refl, sym, ap, ap₂, arith, if◌then◌else◌}
use Rattle.std.specs.List.{AllByRecursion}
use Rattle.std.specs.Str.{bytes_eq}
use Rattle.std.proofs.lemmas.List.Sums.{sum_by-cons}
use Rattle.std.proofs.lemmas.Slice.Eq.{bytes_eq-Decides}
use Rattle.statement_model.specs.Grammar.{Key}
use Rattle.statement_model.specs.Reading.{is_among, same_words}
use Rattle.connection_rules.specs.NetParts.{Part, pin_part}
use Rattle.connection_rules.specs.Terminals.{NetPin, each_once}

both_true : (b c : Bool) → (b && c) ≡ true → (b ≡ true) × (c ≡ true)
both_true true c h = (refl, h)
both_true false c h = absurd (cc)

same_are_one : (k l : Key) → same_words k l ≡ true → k ≡ l
same_are_one [] [] h = refl
same_are_one (v ∷ vs) (w ∷ ws) h =
    let both = both_true (bytes_eq v w) (same_words vs ws) h in
    ap₂ (λ (x : List ℕ) (xs : Key). x ∷ xs) ((bytes_eq-Decides v w).0 both.0) (same_are_one vs ws both.1)
same_are_one [] (w ∷ ws) h = absurd (cc)
same_are_one (v ∷ vs) [] h = absurd (cc)

module _ (test : Key → Bool) where
  -- keys of which one passes and the other doesn't aren't the same
  differ : (b : Bool) (k l : Key) → test k ≡ b → test l ≡ not b → same_words k l ≡ false
  differ b k l h g = one b (same_words k l) refl h g
    where
      one : (b e : Bool) → same_words k l ≡ e → test k ≡ b → test l ≡ not b → e ≡ false
      one b false is h g = refl
      one true true is h g = absurd (let same = ap test (same_are_one k l is) in cc)
      one false true is h g = absurd (let same = ap test (same_are_one k l is) in cc)

  -- lists of keys have the same among those that pass, or among those that don't
  abbrev Alike : Bool → List Key → List Key → Type 0
  Alike b seen noted = (k : Key) → test k ≡ b → is_among seen k ≡ is_among noted k

  grown : (b : Bool) (seen noted : List Key) (x : Key) → Alike b seen noted → Alike b (x ∷ seen) (x ∷ noted)
  grown b seen noted x h = λ k is. ap (λ (e : Bool). same_words k x || e) (h k is)

  another : (b : Bool) (seen : List Key) (x : Key) → test x ≡ not b → Alike b (x ∷ seen) seen
  another b seen x other = λ k is. ap (λ (e : Bool). e || is_among seen k) (differ b k x is other)

  abbrev Pass : Bool → List NetPin → Type 0
  Pass b ps = AllByRecursion (λ (p : NetPin). test p.words ≡ b) ps

  once_alike : (b : Bool) (seen noted : List Key) (ps : List NetPin) → Pass b ps → Alike b seen noted → each_once seen ps ≡ each_once noted ps
  unfolding Rattle.connection_rules.specs.Terminals.each_once
  once_alike b seen noted [] all h = refl
  once_alike b seen noted (p ∷ ps) all h =
      ap (λ (e : Bool). if e then each_once seen ps else p ∷ each_once (p.words ∷ seen) ps) (h p.words all.0)
      ∙ ap₂ (λ (x y : List NetPin). if is_among noted p.words then x else p ∷ y)
      (once_alike b seen noted ps all.1 h)
      (once_alike b (p.words ∷ seen) (p.words ∷ noted) ps all.1 (grown b seen noted p.words h))

  abbrev pub passing : List NetPin → List NetPin
  passing ps = filter (λ (p : NetPin). test p.words) ps

  abbrev pub failing : List NetPin → List NetPin
  failing ps = filter (λ (p : NetPin). not (test p.words)) ps

  all_pass : (ps : List NetPin) → Pass true (passing ps)
  all_pass [] = tt
  all_pass (p ∷ ps) = one (test p.words) refl (all_pass ps)
    where
      one : (b : Bool) → test p.words ≡ b → Pass true (passing ps) → Pass true (if b then p ∷ passing ps else passing ps)
      one true is later = (is, later)
      one false is later = later

  all_fail : (ps : List NetPin) → Pass false (failing ps)
  all_fail [] = tt
  all_fail (p ∷ ps) = one (test p.words) refl (all_fail ps)
    where
      one : (b : Bool) → test p.words ≡ b → Pass false (failing ps) → Pass false (if not b then p ∷ failing ps else failing ps)
      one false is later = (is, later)
      one true is later = later

  -- pins that are each once are those that pass, each once, and those that don't
  module _ (w : NetPin → ℕ) where
    abbrev pub total : List Key → List NetPin → ℕ
    total seen ps = sum_by w (each_once seen ps)

    seen_total : (seen : List Key) (p : NetPin) (ps : List NetPin) → is_among seen p.words ≡ true → total seen (p ∷ ps) ≡ total seen ps
    unfolding Rattle.connection_rules.specs.Terminals.each_once
    seen_total seen p ps h = ap (λ (e : Bool). sum_by w (if e then each_once seen ps else p ∷ each_once (p.words ∷ seen) ps)) h

    new_total : (seen : List Key) (p : NetPin) (ps : List NetPin) → is_among seen p.words ≡ false → total seen (p ∷ ps) ≡ w p + total (p.words ∷ seen) ps
    unfolding Rattle.connection_rules.specs.Terminals.each_once
    new_total seen p ps h =
        ap (λ (e : Bool). sum_by w (if e then each_once seen ps else p ∷ each_once (p.words ∷ seen) ps)) h
        ∙ sum_by-cons w p (each_once (p.words ∷ seen) ps)

    step : (seen : List Key) (p : NetPin) (ps : List NetPin) (b e : Bool) → test p.words ≡ b → is_among seen p.words ≡ e
        → total seen ps ≡ total seen (passing ps) + total seen (failing ps)
        → total (p.words ∷ seen) ps ≡ total (p.words ∷ seen) (passing ps) + total (p.words ∷ seen) (failing ps)
        → total seen (p ∷ ps) ≡ total seen (if b then p ∷ passing ps else passing ps) + total seen (if not b then p ∷ failing ps else failing ps)
    step seen p ps true true is h same later = omega (arith, seen_total seen p ps h, seen_total seen p (passing ps) h, same)
    step seen p ps false true is h same later = omega (arith, seen_total seen p ps h, seen_total seen p (failing ps) h, same)
    step seen p ps true false is h same later =
        let others = ap (sum_by w) (once_alike false (p.words ∷ seen) seen (failing ps) (all_fail ps) (another false seen p.words is)) in
        omega (arith, new_total seen p ps h, new_total seen p (passing ps) h, later, others)
    step seen p ps false false is h same later =
        let others = ap (sum_by w) (once_alike true (p.words ∷ seen) seen (passing ps) (all_pass ps) (another true seen p.words is)) in
        omega (arith, new_total seen p ps h, new_total seen p (failing ps) h, later, others)

    pub parted : (seen : List Key) (ps : List NetPin) → total seen ps ≡ total seen (passing ps) + total seen (failing ps)
    unfolding Rattle.connection_rules.specs.Terminals.each_once
    parted seen [] = refl
    parted seen (p ∷ ps) = step seen p ps (test p.words) (is_among seen p.words) refl refl (parted seen ps) (parted (p.words ∷ seen) ps)

-- sums over the parts that pins are which count
module _ (w : Part → ℕ) where
  abbrev pub counted : NetPin → ℕ
  counted p = if p.counts then w (pin_part p) else 0

  pub counted_parts : (ps : List NetPin) → sum_by w (map pin_part (filter (λ (p : NetPin). p.counts) ps)) ≡ sum_by counted ps
  counted_parts [] = refl
  counted_parts (p ∷ ps) = one p.counts (filter (λ (q : NetPin). q.counts) ps) (sum_by counted ps) (counted_parts ps) ∙ sym (sum_by-cons counted p ps)
    where
      one : (b : Bool) (some : List NetPin) (n : ℕ) → sum_by w (map pin_part some) ≡ n → sum_by w (map pin_part (if b then p ∷ some else some)) ≡ (if b then w (pin_part p) else 0) + n
      one true some n h = omega (arith, sum_by-cons w (pin_part p) (map pin_part some), h)
      one false some n h = omega (arith, h)
