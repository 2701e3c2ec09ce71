use Rattle.list_fonts.proofs.AlikeLaws.{same_fonts_share}
use Rattle.list_fonts.proofs.lists_of_the_same_fonts_expand_alike.Goals as goal

pub returns : goal.returns
returns c = same_fonts_share
