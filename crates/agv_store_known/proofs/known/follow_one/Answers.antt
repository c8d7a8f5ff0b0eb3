use Rattle.agv_store_known.proofs.known.follow_one.Goals as goal

pub returns : goal.returns
returns c count maps is = record {
  counted = is.counted;
  agrees = c.follow.ensures maps is.agrees;
  fits = c.follow-2.ensures maps is.fits;
  trips_are = c.follow-3.ensures maps is.trips_are;
  vehicles_are = c.follow-4.ensures maps is.vehicles_are;
  jobs_are = c.follow-5.ensures maps is.jobs_are;
}
