use Rattle.list_fonts.proofs.PartFonts.{paragraph_shares}
use Rattle.list_fonts.proofs.fonts_of_a_paragraph_expand_alike.Goals as goal

pub returns : goal.returns
returns c = paragraph_shares
