use Rattle.design_text.proofs.text.DesignText.refusal.Goals as goal

pub returns-in_default : goal.returns-in_default
returns-in_default g c = (c.requires.order, c.requires.within, c.requires.short)
