-- What every job that was read is kept to, so that the steps behind may rely on it.
-- This is the crate's own.
use Rattle.std.specs.Prelude.{◌≡◌, ℕ, ◌<◌, ◌≤◌, Bool, true, false, ◌||◌, ◌==◌, List, [], ◌∷◌, length, All}
use Rattle.std.specs.Char.{is_ascii_alphanumeric}
use Rattle.font_stock.specs.Sizes.{IsSize}
use Rattle.micro_num.specs.declared.params.Params.{Params}
use Rattle.micro_num.specs.declared.paragraph.PartAt.{PartAt}
use Rattle.micro_num.specs.declared.part.Part.{Part}
use Rattle.micro_num.specs.declared.part.Part.TheVariants.{Char, Space, Normal, Tie, Kern, Skip, Penalty, Hyphen, Disc, Font as font_part}
use Rattle.job_text.specs.declared.job.Job.{Job}
use Rattle.micro_num.specs.declared.shape.ShapeLine.{ShapeLine}
use Rattle.micro_num.specs.Shape.{IsShapeLine}
use Rattle.job_reading.specs.Bounds.{IsNumber, IsLength, IsGlue}
use Rattle.job_reading.specs.declared.word.IntegerParameter.{IntegerParameter}
use Rattle.job_reading.specs.declared.word.DimensionParameter.{DimensionParameter}
use Rattle.job_reading.specs.declared.word.GlueParameter.{GlueParameter}
use Rattle.job_text.specs.Assignments.{integer_of, dimension_of, glue_of}

-- a letter, a digit or `-`
abbrev pub is_file_byte : ℕ → Bool
is_file_byte code = is_ascii_alphanumeric code || code == 45

-- 1 to 40 letters, digits and `-`
pub record IsFileName (name : List ℕ) : Type 0 where
  pub some : 1 ≤ length name
  pub short : length name ≤ 40
  pub bytes : All (λ code. is_file_byte code ≡ true) name

-- each parameter is bounded as what is read for one of its kind
pub record ParamsFit (params : Params) : Type 0 where
  pub integers : (parameter : IntegerParameter) → IsNumber (integer_of params parameter)
  pub dimensions : (parameter : DimensionParameter) → IsLength (dimension_of params parameter)
  pub glues : (parameter : GlueParameter) → IsGlue (glue_of params parameter)

-- a shape has at most 1024 lines, with an indent and a width of less than 2^30 sp either way
pub record ShapeFits (shape : List ShapeLine) : Type 0 where
  pub few : length shape ≤ 1024
  pub lines : All IsShapeLine shape

-- the kerns, glues and penalties of a paragraph are as bounded
abbrev pub IsBounded : Part → Type 0
IsBounded (Kern width) = IsLength width
IsBounded (Skip glue) = IsGlue glue
IsBounded (Penalty value) = IsNumber value
IsBounded _ = Unit {0}

-- text needs a current font
abbrev pub needs_font : Part → Bool
needs_font (Char code) = true
needs_font Space = true
needs_font Normal = true
needs_font Tie = true
needs_font Hyphen = true
needs_font (Disc lists) = true
needs_font _ = false

abbrev pub is_font : Part → Bool
is_font (font_part font) = true
is_font _ = false

-- a Font part names one of so many fonts
abbrev pub NamesFont : ℕ → Part → Type 0
NamesFont count (font_part font) = font < count
NamesFont count _ = Unit {0}

-- Each Font part names one of so many fonts, and one stands before each part that needs a font, given
-- whether one stood before all of these.
abbrev pub PartsFit : ℕ → Bool → List PartAt → Type 0
PartsFit count begun [] = Unit {0}
PartsFit count begun (one ∷ parts) = NamesFont count one.part × (needs_font one.part ≡ true → begun ≡ true) × PartsFit count (begun || is_font one.part) parts

-- at most 32 fonts, each of a size and with a file's name, and at most 65,535 paragraphs of these fonts,
-- whose lengths, numbers, glues and shapes are bounded
pub record JobFits (job : Job) : Type 0 where
  pub few_fonts : length job.fonts ≤ 32
  pub sizes : All (λ font. IsSize font.size) job.fonts
  pub names : All (λ font. IsFileName font.name) job.fonts
  pub few_pars : length job.pars ≤ 65535
  pub pars : All (λ par. PartsFit (length job.fonts) false par.parts) job.pars
  pub params : All (λ par. ParamsFit par.params) job.pars
  pub shapes : All (λ par. ShapeFits par.shape) job.pars
  pub bounded : All (λ par. All (λ one. IsBounded one.part) par.parts) job.pars
