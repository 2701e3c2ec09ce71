-- The report of a document (this project's own).
--     lines_on pages          how many lines pages have together
--     is_instance cell        whether its step is other than 0
--     instances_among cells   how many cells have a step other than 0
--     report_of               what is told of pages, of the cells that number their fonts, and of bytes
--     report_line             a line, a word and how many there are, and the lines behind it
--     report_text report      the five lines
use Rattle.std.specs.Prelude.{ℕ, pos, Bool, not, List, [], ◌++◌, codes, length}
use Rattle.std.specs.Fmt.{decimal}
use Rattle.std.specs.List.{count_by, sum_by}
use Rattle.std.specs.Ordering.{int_eq}
use Rattle.instance_core.specs.declared.cell.Cell.{Cell}
use Rattle.instance_core.specs.declared.page.Page.{Page}
use Rattle.micro_texts.specs.declared.reports.Report.{Report}

abbrev pub lines_on : List Page → ℕ
lines_on pages = sum_by (λ (page : Page). length page.lines) pages

abbrev pub is_instance : Cell → Bool
is_instance cell = not (int_eq cell.step (pos 0))

abbrev pub instances_among : List Cell → ℕ
instances_among cells = count_by is_instance cells

abbrev pub report_of : List Page → List Cell → ℕ → Report
report_of pages cells bytes = record {
  paragraphs = length pages;
  lines = lines_on pages;
  fonts = length cells;
  instances = instances_among cells;
  bytes = bytes;
}

abbrev pub report_line : List ℕ → ℕ → List ℕ → List ℕ
report_line word count rest = word ++ (decimal count ++ (codes "\n" ++ rest))

unfoldable pub report_text : Report → List ℕ
report_text report =
    report_line (codes "paragraphs ") report.paragraphs
    (report_line (codes "lines ") report.lines
    (report_line (codes "fonts ") report.fonts
    (report_line (codes "instances ") report.instances
    (report_line (codes "bytes ") report.bytes []))))
