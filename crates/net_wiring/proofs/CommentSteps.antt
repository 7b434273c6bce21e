-- A loop over bytes that looks for a comment, and keeps of what is open no places and no bytes.
use Rattle.std.proofs.Common.{◌≡◌, ℕ, ◌||◌, Bool, true, false, List, [], ◌∷◌, ◌++◌, if◌then◌else◌, refl, sym, ap, ap₂, ◌∙◌}
use Rattle.statement_model.specs.Tokens.{Open, closes, is_white, next_open}
use Rattle.statement_model.specs.Tokens.Open.{between, comment, string, word}
use Rattle.edit_rules.specs.NetEdits.{is_comment, opens_comment}
use Rattle.net_wiring.specs.WiringViews.{bare, open_view}
use Rattle.net_wiring.specs.declared.comments.Within.{Within}
use Rattle.net_wiring.specs.declared.comments.Within.TheVariants as opens

if_bare : (b : Bool) (x y u v : Open) → bare x ≡ bare u → bare y ≡ bare v → bare (if b then x else y) ≡ bare (if b then u else v)
if_bare true x y u v e f = e
if_bare false x y u v e f = f

next_bare : (state : Open) (b : ℕ) → bare (next_open 0 state b) ≡ bare (next_open 0 (bare state) b)
next_bare between b = refl
next_bare comment b = refl
next_bare (word at bytes) b = if_bare (is_white b) between (word at (bytes ++ b ∷ [])) between (word 0 ([] ++ b ∷ [])) refl refl
next_bare (string at bytes last) b = if_bare (closes last b) between (string at (bytes ++ b ∷ []) b) between (string 0 ([] ++ b ∷ []) b) refl refl

comment_bare : (s : Open) → is_comment s ≡ is_comment (bare s)
comment_bare between = refl
comment_bare comment = refl
comment_bare (word at bytes) = refl
comment_bare (string at bytes last) = refl

bare_twice : (s : Open) → bare (bare s) ≡ bare s
bare_twice between = refl
bare_twice comment = refl
bare_twice (word at bytes) = refl
bare_twice (string at bytes last) = refl

comment_same : (s t : Open) → bare s ≡ bare t → is_comment s ≡ is_comment t
comment_same s t same = comment_bare s ∙ ap is_comment same ∙ sym (comment_bare t)

opens_same : (s t : Open) (bs : List ℕ) → bare s ≡ bare t → opens_comment s bs ≡ opens_comment t bs
unfolding opens_comment
opens_same s t [] same = comment_same s t same
opens_same s t (b ∷ bs) same =
    ap₂ (λ (x y : Bool). x || y) (comment_same s t same)
    (opens_same (next_open 0 s b) (next_open 0 t b) bs (next_bare s b ∙ ap (λ (u : Open). bare (next_open 0 u b)) same ∙ sym (next_bare t b)))

opens_bare : (s : Open) (bs : List ℕ) → opens_comment s bs ≡ opens_comment (bare s) bs
opens_bare s bs = opens_same s (bare s) bs (sym (bare_twice s))

seen_free : (w : Within) → is_comment (open_view w) ≡ false
seen_free opens.Between = refl
seen_free opens.Word = refl
seen_free (opens.Quotes last) = refl

opens_next : (w : Within) (b : ℕ) (bs : List ℕ) → opens_comment (open_view w) (b ∷ bs) ≡ opens_comment (bare (next_open 0 (open_view w) b)) bs
unfolding opens_comment
opens_next w b bs = rw (seen_free w) (opens_bare (next_open 0 (open_view w) b) bs)

-- a byte later
pub opens_later : (w later : Within) (b : ℕ) (bs : List ℕ) → open_view later ≡ bare (next_open 0 (open_view w) b) → opens_comment (open_view w) (b ∷ bs) ≡ opens_comment (open_view later) bs
opens_later w later b bs is = opens_next w b bs ∙ ap (λ (s : Open). opens_comment s bs) (sym is)

in_comment : (bs : List ℕ) → opens_comment comment bs ≡ true
unfolding opens_comment
in_comment [] = refl
in_comment (b ∷ bs) = refl

-- a comment begins
pub opens_here : (w : Within) (b : ℕ) (bs : List ℕ) → bare (next_open 0 (open_view w) b) ≡ comment → opens_comment (open_view w) (b ∷ bs) ≡ true
opens_here w b bs is = opens_next w b bs ∙ ap (λ (s : Open). opens_comment s bs) is ∙ in_comment bs

-- at the end none is open
pub opens_none : (w : Within) → opens_comment (open_view w) [] ≡ false
unfolding opens_comment
opens_none w = seen_free w
