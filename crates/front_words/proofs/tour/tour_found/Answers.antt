use Rattle.std.proofs.Common.{◌∙◌, ap, sym, Some}
use Rattle.front_words.proofs.TourWords.{tour_made}
use Rattle.front_words.proofs.tour.tour_found.Goals as goal

pub returns : goal.returns
returns c = record {
  made =
      tour_made c.in_ok-tour.tour _ _ _ c.in_ok-drive.drive c.in_ok-rest.rest c.in_ok-tour.ensures.values c.in_ok-drive.ensures.value
      c.in_ok-rest.ensures.value ∙ sym (ap Some c.tour_under.ensures.made);
  supported = c.tour_under.ensures.supported;
}
