mod load_tests
mod vehicle_tests
