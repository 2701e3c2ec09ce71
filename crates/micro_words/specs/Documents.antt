-- The job of a generated document.
--     job n     the job of n paragraphs: the lines of its settings, then the paragraphs that are
--               drawn from state n
use Rattle.std.specs.Prelude.{ℕ, List, ◌++◌, codes}
use Rattle.micro_words.specs.Prose.{paragraphs}

-- the font, which expands by up to 2% at steps of 0.1%, the two characters that hang out at the
-- right margin, and the settings of paragraphs
unfoldable pub settings : List ℕ
settings =
    codes "\\font\\genrm=tiny10 \\genrm\n"
    ++ codes "\\pdffontexpand\\genrm 20 20 1\n"
    ++ codes "\\pdfadjustspacing=2 \\pdfprotrudechars=2\n"
    ++ codes "\\rpcode\\genrm 46=700 \\rpcode\\genrm 44=500\n"
    ++ codes "\\hsize=200pt \\tolerance=1000 \\emergencystretch=10pt\n"

unfoldable pub job : ℕ → List ℕ
job n = settings ++ paragraphs n n
