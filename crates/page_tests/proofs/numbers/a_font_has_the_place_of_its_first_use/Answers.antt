use Rattle.page_tests.proofs.FewUses.{two_pages_few}
use Rattle.page_tests.proofs.numbers.a_font_has_the_place_of_its_first_use.Goals as goal

pub make-requires : goal.make-requires
make-requires g c = two_pages_few c.in_ok-page.field-0 c.in_ok-page-2.field-0 c.in_ok-page.ensures c.in_ok-page-2.ensures
