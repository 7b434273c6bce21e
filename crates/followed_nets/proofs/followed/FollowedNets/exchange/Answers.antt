use Rattle.std.proofs.Common.{◌≡◌, ◌∙◌, ◌++◌, List, ℕ, ap, map, subst, sym}
use Rattle.std.specs.Prelude.{IfSome}
use Rattle.net_touches.specs.Barriers.{name_at}
use Rattle.followed_nets.specs.Pieces.{AreOnPieces, ArePieces}
use Rattle.followed_nets.specs.ToldViews.{told_view}
use Rattle.followed_nets.proofs.followed.FollowedNets.exchange.Goals as goal

pub exchange_nets-requires : goal.exchange_nets-requires
exchange_nets-requires g c =
    let bars = c.requires.0 in
    let names = ap name_at (ap (map (λ w. w.now)) c.deref.ensures.value ∙ c.in_ok-layers.ensures) ∙ c.layers_have_their_names.ensures c.args.library.now.layers in (
      bars,
      c.requires.1,
      c.requires.2,
      c.requires.3,
      subst (λ (f : ℕ → List ℕ). ArePieces f bars c.requires.1 (map told_view c.args.told.gone.items)) (sym names) c.requires.4,
      subst (λ (f : ℕ → List ℕ). ArePieces f bars c.requires.2 (map told_view c.args.told.come.items)) (sym names) c.requires.5,
      subst (λ (f : ℕ → List ℕ). AreOnPieces f bars (c.requires.1 ++ c.requires.3) c.self.inside.shapes c.args.start.lines.lines) (sym names) (rw (← c.self.view_is) at c.requires.6),
    )

pub returns-clause-lines : goal.returns-clause-lines
returns-clause-lines g c = λ bars out put rest goes comes had.
    let names = ap name_at (ap (map (λ w. w.now)) c.deref.ensures.value ∙ c.in_ok-layers.ensures) ∙ c.layers_have_their_names.ensures c.args.library.now.layers in
    let gone = subst (λ (f : ℕ → List ℕ). ArePieces f bars out (map told_view c.args.told.gone.items)) (sym names) goes in
    let come = subst (λ (f : ℕ → List ℕ). ArePieces f bars put (map told_view c.args.told.come.items)) (sym names) comes in
    let there = subst (λ (f : ℕ → List ℕ). AreOnPieces f bars (out ++ rest) c.self.inside.shapes c.args.start.lines.lines) (sym names) (rw (← c.self.view_is) at had) in
    subst (λ (f : ℕ → List ℕ). IfSome c.in_ok-found.found (λ l. AreOnPieces f bars (put ++ rest) c.exchange_nets.new.shapes l.lines.lines)) names (c.in_ok-found.ensures.lines bars out put rest gone come there)
