mod Places
mod Results
mod Together
